-- What a turns file says: lists of turns, with the word `next` between one list and the next.
use Rattle.std.specs.Prelude.{ℕ, ◌+◌, ◌<◌, ◌≤◌, Bool, true, false, nat_le, nat_lt, Option, Some, None, is_some, Result, Ok, Err, List, length, take, map, filter_map, find, count_by, slice_index_or, All}
use Rattle.std.specs.List.{slice_split}
use Rattle.esa_params.specs.Sizes.{below}
use Rattle.esa_bytes.specs.Lines.{text_lines}
use Rattle.esa_model.specs.Drafts.{turns_in}
use Rattle.esa_model.specs.Words.{word_in}
use Rattle.esa_model.specs.declared.word.Word.{Word}
use Rattle.esa_model.specs.declared.word.Word.TheVariants.{Turn, Next}
use Rattle.esa_model.specs.declared.turns.TurnsRefused.{TurnsRefused}
use Rattle.esa_model.specs.declared.turns.TurnsRefused.TheVariants.{Line}

-- the words of the lines, where None stands for a line that is neither a worker's number nor `next`
abbrev pub words_in : ℕ → List (List ℕ) → List (Option Word)
words_in workers lines = map (word_in workers) lines

-- a line is `next`
abbrev pub is_next : Option Word → Bool
is_next (Some Next) = true
is_next _ = false

-- the worker whose number a line is
abbrev pub worker_in : Option Word → Option ℕ
worker_in (Some (Turn worker)) = Some worker
worker_in _ = None

-- a line is a worker's number
abbrev pub is_turn : Option Word → Bool
is_turn word = is_some (worker_in word)

-- the last of these words can't be read: it is none, it begins a list beyond the attempts, or it is a turn past 4,194,304
abbrev pub is_bad : ℕ → List (Option Word) → Option Word → Bool
is_bad attempts words None = true
is_bad attempts words (Some Next) = nat_le attempts (count_by is_next words)
is_bad attempts words (Some (Turn worker)) = nat_lt 4194304 (count_by is_turn words)

-- the word at x can't be read
abbrev pub is_refused : ℕ → List (Option Word) → ℕ → Bool
is_refused attempts words x = is_bad attempts (take (x + 1) words) (slice_index_or words x None)

-- the first word that can't be read
abbrev pub first_refused : ℕ → List (Option Word) → Option ℕ
first_refused attempts words = find (is_refused attempts words) (below (length words))

-- the workers between one `next` and the next, with those before the first and those after the last
abbrev pub lists_in : List (Option Word) → List (List ℕ)
lists_in words = map (filter_map worker_in) (slice_split is_next words)

-- lists, unless a line is refused, which are counted from 1
abbrev pub unless : Option ℕ → List (List ℕ) → Result (List (List ℕ)) TurnsRefused
unless None lists = Ok lists
unless (Some x) lists = Err (Line (x + 1))

-- the lists that words say, or the number of the first line that can't be read
abbrev pub said_by : ℕ → List (Option Word) → Result (List (List ℕ)) TurnsRefused
said_by attempts words = unless (first_refused attempts words) (lists_in words)

-- the lists that a turns file says, or the number of the first line that can't be read
abbrev pub turns_of : ℕ → ℕ → List ℕ → Result (List (List ℕ)) TurnsRefused
turns_of workers attempts bytes = said_by attempts (words_in workers (text_lines bytes))

-- each turn is that of one of so many workers
abbrev pub AreWorkers : ℕ → List (List ℕ) → Type 0
AreWorkers workers lists = All (λ list. All (λ worker. worker < workers) list) lists

-- lists that a turns file can say: one at least, no more than attempts, and few turns of workers
pub record CanRead (w a : ℕ) (hs : List (List ℕ)) : Type 0 where
  pub some : 1 ≤ length hs
  pub lists : length hs ≤ a
  pub turns : turns_in hs ≤ 4194304
  pub workers : AreWorkers w hs
