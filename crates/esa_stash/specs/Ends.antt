-- The lists that links stand for.
use Rattle.std.specs.Prelude.{◌≡◌, ℕ, ◌+◌, ◌-◌, ◌^◌, ◌<◌, ◌==◌, List, All, length, if◌then◌else◌, slice_index, slice_set, map}
use Rattle.esa_stash.specs.declared.links.Ends.{Ends}
use Rattle.esa_stash.specs.Links.{cells_from, IsPartition}

-- the cells of a list, by its ends and the cell after each cell
abbrev pub cells_of : List ℕ → Ends → List ℕ
cells_of next ends = cells_from next ends.first ends.length

-- a list that isn't empty ends with its last cell
abbrev pub EndsInLast : List ℕ → Ends → Type 0
EndsInLast next ends = 0 < ends.length → slice_index (cells_of next ends) (ends.length - 1) ≡ ends.last

-- the links stand for lists that share out the cells
pub record AreLinked (next : List ℕ) (lists : List Ends) : Type 0 where
  pub small : length next < 2 ^ 32
  pub partition : IsPartition (length next) (map (cells_of next) lists)
  pub last : All (EndsInLast next) lists

-- the links once a cell goes behind a list
abbrev pub linked : List ℕ → Ends → ℕ → List ℕ
linked next ends cell = if ends.length == 0 then next else slice_set next ends.last cell

-- the ends of that list
abbrev pub longer : Ends → ℕ → Ends
longer ends cell = record {
  first = if ends.length == 0 then cell else ends.first;
  last = cell;
  length = ends.length + 1;
}

-- the ends of a list of so many cells from 0 on
abbrev pub rising_ends : ℕ → Ends
rising_ends cells = record { first = 0; last = cells - 1; length = cells }

-- the ends of an empty list
abbrev pub no_ends : Ends
no_ends = record { first = 0; last = 0; length = 0 }
