-- How often each element stands in a list, by a comparison.
use Rattle.std.specs.Prelude.{ℕ, ◌+◌, cond, List, [], ◌∷◌, unwrap_or}
use Rattle.std.specs.List.{count_by}
use Rattle.std.specs.declared.cmp.Ordering.{Ordering}
use Rattle.std.specs.Ordering.{eq_by_cmp}
use Rattle.std.specs.FinMap as map

-- how often x stands in the list
abbrev pub times : {X : Type 0} → (X → X → Ordering) → X → List X → ℕ
times R x xs = count_by (eq_by_cmp R x) xs

-- from each element of the list to how often it stands there
unfoldable pub tally : {X : Type 0} (R : X → X → Ordering) → List X → map.FinMap R ℕ
tally R [] = map.empty
tally R (x ∷ xs) = map.insert (tally R xs) x (unwrap_or (map.get (tally R xs) x) 0 + 1)

-- the row of x, with one more where the first row is that of x
unfoldable pub count_first : {X : Type 0} → (X → X → Ordering) → X → List (X × ℕ) → List (X × ℕ)
count_first R x [] = (x, 1) ∷ []
count_first R x (row ∷ rows) = cond (eq_by_cmp R x row.0) ((x, row.1 + 1) ∷ rows) ((x, 1) ∷ row ∷ rows)

-- each run of equal elements as one row: the element and the length of the run
unfoldable pub runs : {X : Type 0} → (X → X → Ordering) → List X → List (X × ℕ)
runs R [] = []
runs R (x ∷ xs) = count_first R x (runs R xs)
