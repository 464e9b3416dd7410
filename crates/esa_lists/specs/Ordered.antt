-- A list in order, by a comparison.
use Rattle.std.specs.Prelude.{cond, List, [], ◌∷◌}
use Rattle.std.specs.declared.cmp.Ordering.{Ordering}
use Rattle.std.specs.Ordering.{is_lt}

-- the list with x before the first element that is not less than x
unfoldable pub put_before : {X : Type 0} → (X → X → Ordering) → X → List X → List X
put_before R x [] = x ∷ []
put_before R x (y ∷ ys) = cond (is_lt (R y x)) (y ∷ put_before R x ys) (x ∷ y ∷ ys)

-- the elements in rising order, each as often as it stands in the list
unfoldable pub ordered : {X : Type 0} → (X → X → Ordering) → List X → List X
ordered R [] = []
ordered R (x ∷ xs) = put_before R x (ordered R xs)
