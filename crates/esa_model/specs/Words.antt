-- What a line of a turns file says.
use Rattle.std.specs.Prelude.{ℕ, ◌<◌, nat_lt, bytes_eq, codes, Option, Some, None, option_and_then, if◌then◌else◌, List}
use Rattle.esa_bytes.specs.Decimal.{decimal_in}
use Rattle.esa_model.specs.declared.word.Word.{Word}
use Rattle.esa_model.specs.declared.word.Word.TheVariants.{Turn, Next}

-- the turn of a worker, where there are so many
abbrev pub turn_of : ℕ → ℕ → Option Word
turn_of workers worker = if nat_lt worker workers then Some (Turn worker) else None

-- a turn is that of one of so many workers
abbrev pub IsTurnOf : ℕ → Word → Type 0
IsTurnOf workers (Turn worker) = worker < workers
IsTurnOf workers Next = Unit {0}

-- a line is the word `next`, or the number of a worker in decimal
abbrev pub word_in : ℕ → List ℕ → Option Word
word_in workers line = if bytes_eq line (codes "next") then Some Next else option_and_then (turn_of workers) (decimal_in line)
