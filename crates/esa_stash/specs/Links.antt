-- Cells by number, each in one of some lists.
use Rattle.std.specs.Prelude.{◌≡◌, ℕ, suc, zero, ◌==◌, List, [], ◌∷◌, ◌++◌, length, if◌then◌else◌, nat_lt, count_by, sum_by, take, drop, slice_index, slice_index_or, slice_set}

-- how often a cell stands in a list
abbrev pub occurrences : ℕ → List ℕ → ℕ
occurrences cell list = count_by (λ other. other == cell) list

-- each cell below room stands once in the lists, no other number stands there, and so the lists
-- together are as long as there are cells
pub record IsPartition (room : ℕ) (lists : List (List ℕ)) : Type 0 where
  pub once : (cell : ℕ) → sum_by (occurrences cell) lists ≡ (if nat_lt cell room then 1 else 0)
  pub total : sum_by length lists ≡ room

-- the list of this number
abbrev pub list_at : List (List ℕ) → ℕ → List ℕ
list_at lists i = slice_index_or lists i []

-- the first cell of one list goes behind another
abbrev pub shifted : List (List ℕ) → ℕ → ℕ → List (List ℕ)
shifted lists from to =
    slice_set (slice_set lists from (drop 1 (list_at lists from))) to (list_at lists to ++ take 1 (list_at lists from))

-- so many cells from one on, each the next of the one before
abbrev pub cells_from : List ℕ → ℕ → ℕ → List ℕ
cells_from next cell zero = []
cells_from next cell (suc n) = cell ∷ cells_from next (slice_index next cell) n

-- a number of cells, and the cells of each list in order
pub record Lists : Type 0 where
  pub room : ℕ
  pub lists : List (List ℕ)
