-- The cells that a walk along the links passes.
use Rattle.std.proofs.Common.{◌≡◌, ◌≢◌, ℕ, zero, suc, List, [], ◌∷◌, ◌++◌, length, get_or, set, refl, ap, arith, get_or-set_other}
use Rattle.esa_stash.specs.Links.{occurrences, cells_from}
use Rattle.esa_stash.proofs.Partitions.{occurrences-cons}

-- the cell after n steps from one on
abbrev pub cell_after : List ℕ → ℕ → ℕ → ℕ
cell_after next cell zero = cell
cell_after next cell (suc n) = cell_after next (get_or next cell 0) n

pub length-cells_from : (next : List ℕ) (cell n : ℕ) → length (cells_from next cell n) ≡ n
length-cells_from next cell zero = refl
length-cells_from next cell (suc n) = ap suc (length-cells_from next (get_or next cell 0) n)

pub cell_after-suc : (next : List ℕ) (cell n : ℕ) → cell_after next cell (suc n) ≡ get_or next (cell_after next cell n) 0
cell_after-suc next cell zero = refl
cell_after-suc next cell (suc n) = cell_after-suc next (get_or next cell 0) n

pub cells_from-suc : (next : List ℕ) (cell n : ℕ) → cells_from next cell (suc n) ≡ cells_from next cell n ++ cell_after next cell n ∷ []
cells_from-suc next cell zero = refl
cells_from-suc next cell (suc n) = ap (λ (l : List ℕ). cell ∷ l) (cells_from-suc next (get_or next cell 0) n)

-- a walk that doesn't pass a cell goes the same way whatever comes after that cell
pub apart_from : (x c : ℕ) (l : List ℕ) → occurrences x (c ∷ l) ≡ 0 → c ≢ x
apart_from x c l none e = let head = occurrences-cons x c l in grind arith

pub rest_apart : (x c : ℕ) (l : List ℕ) → occurrences x (c ∷ l) ≡ 0 → occurrences x l ≡ 0
rest_apart x c l none = let head = occurrences-cons x c l in omega arith

pub cells_from-set : (next : List ℕ) (cell n x y : ℕ) → occurrences x (cells_from next cell n) ≡ 0 → cells_from (set next x y) cell n ≡ cells_from next cell n
cells_from-set next cell zero x y none = refl
cells_from-set next cell (suc n) x y none =
    let rest = cells_from next (get_or next cell 0) n in
    let other : cell ≢ x = apart_from x cell rest none in
    rw (get_or-set_other next x cell y 0 other) (ap (λ (l : List ℕ). cell ∷ l) (cells_from-set next (get_or next cell 0) n x y (rest_apart x cell rest none)))

pub cell_after-set : (next : List ℕ) (cell n x y : ℕ) → occurrences x (cells_from next cell n) ≡ 0 → cell_after (set next x y) cell n ≡ cell_after next cell n
cell_after-set next cell zero x y none = refl
cell_after-set next cell (suc n) x y none =
    let rest = cells_from next (get_or next cell 0) n in
    let other : cell ≢ x = apart_from x cell rest none in
    rw (get_or-set_other next x cell y 0 other) (cell_after-set next (get_or next cell 0) n x y (rest_apart x cell rest none))
