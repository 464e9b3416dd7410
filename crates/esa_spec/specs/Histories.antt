-- The history of a run: an entry of the owner at the start of each attempt and at the end, and the turns of each
-- attempt between them. The owner's entry is the number of workers.
use Rattle.std.specs.Prelude.{ℕ, ◌-◌, ◌==◌, List, [], length, take, drop, slice_index_or, count_by}
use Rattle.std.specs.List.{slice_split}

-- the parts between the owner's entries, with the one before the first and the one after the last
abbrev pub parts : ℕ → List ℕ → List (List ℕ)
parts owner history = slice_split (λ entry. entry == owner) history

-- the lists of turns between one owner's entry and the next
abbrev pub lists : ℕ → List ℕ → List (List ℕ)
lists owner history = take (length (parts owner history) - 2) (drop 1 (parts owner history))

-- the turns after the last owner's entry
abbrev pub latest : ℕ → List ℕ → List ℕ
latest owner history = slice_index_or (parts owner history) (length (parts owner history) - 1) []

-- how many entries are the owner's
abbrev pub begun : ℕ → List ℕ → ℕ
begun owner history = count_by (λ entry. entry == owner) history
