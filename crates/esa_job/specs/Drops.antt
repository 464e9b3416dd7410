-- The drops that a drops file writes.
use Rattle.std.specs.Prelude.{ℕ, ◌+◌, List, map, take, length, nat_lt, nat_le, Option, Result, Ok, Err, if◌then◌else◌}
use Rattle.std.specs.Option.{some_prefix}
use Rattle.esa_bytes.specs.Decimal.{decimal_in}
use Rattle.esa_bytes.specs.Lines.{text_lines}
use Rattle.esa_job.specs.declared.drops.DropsRefused.{DropsRefused}
use Rattle.esa_job.specs.declared.drops.DropsRefused.TheVariants.{Line}
use Rattle.esa_job.specs.Values.{option_filter}

-- the drop that a line writes: a decimal number up to 262,144
abbrev pub drop_in : List ℕ → Option ℕ
drop_in line = option_filter (λ number. nat_le number 262144) (decimal_in line)

-- the drops that the lines write, up to the first line that writes none
abbrev pub drops_in : List (List ℕ) → List ℕ
drops_in lines = some_prefix (map drop_in lines)

-- the drops as a table, for a file of so many lines: there have to be 256 of both
abbrev pub as_table : List ℕ → ℕ → Result (List ℕ) DropsRefused
as_table drops lines =
    if nat_lt (length drops) 256 then Err (Line (length drops + 1))
    else if nat_lt 256 lines then Err (Line 257)
    else Ok drops

-- 256 lines of one drop each, or the first line that is bad, missing or too much
abbrev pub table_of : List (List ℕ) → Result (List ℕ) DropsRefused
table_of lines = as_table (drops_in (take 256 lines)) (length lines)

abbrev pub drops_of : List ℕ → Result (List ℕ) DropsRefused
drops_of bytes = table_of (text_lines bytes)
