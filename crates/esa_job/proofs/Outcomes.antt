-- What the outcome of a test, or of a search for the first item that passes one, tells.
use Rattle.std.proofs.Common.{◌≡◌, Bool, true, false, ◌&&◌, ◌||◌, not, cond, List, [], ◌∷◌, find, Option, Some, None, is_none, refl, sym}
use Rattle.std.specs.List.{AllByRecursion}

pub both_false : (a b : Bool) → (a || b) ≡ false → (a ≡ false) × (b ≡ false)
both_false true b h = cc
both_false false b h = (refl, h)

pub both_true : (a b : Bool) → (a && b) ≡ true → (a ≡ true) × (b ≡ true)
both_true true b h = (refl, h)
both_true false b h = cc

pub not-false : (b : Bool) → not b ≡ false → b ≡ true
not-false true h = refl
not-false false h = sym h

pub not_chosen : {A : Type 0} (test : Bool) (x : A) (rest : Option A) → cond test (Some x) rest ≡ None → (test ≡ false) × (rest ≡ None)
not_chosen true x rest h = cc
not_chosen false x rest h = (refl, h)

pub is_none-none : {A : Type 0} (found : Option A) → is_none found ≡ true → found ≡ None
is_none-none None h = refl
is_none-none (Some x) h = cc

pub none_found : {A : Type 0} (test : A → Bool) (xs : List A) → find test xs ≡ None → AllByRecursion (λ x. test x ≡ false) xs
none_found test [] h = tt
none_found test (x ∷ xs) h = let parts = not_chosen (test x) x (find test xs) h in (parts.0, none_found test xs parts.1)
