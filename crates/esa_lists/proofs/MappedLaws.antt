-- A list in order, seen through a function that keeps the order.
use Rattle.std.proofs.Common.{◌≡◌, true, false, cond, List, [], ◌∷◌, ◌++◌, length, refl, ap, ◌∙◌, arith}
use Rattle.std.specs.Prelude.{map}
use Rattle.std.specs.declared.cmp.Ordering.{Ordering}
use Rattle.std.specs.declared.cmp.Ordering.TheVariants.{Equal}
use Rattle.std.specs.Ordering.{is_lt, ordering_then}
use Rattle.std.specs.Cmp.Lexicographic.{slice_cmp}
use Rattle.std.specs.List.{All}
use Rattle.std.proofs.lemmas.List.Elements.{All-tail}
use Rattle.std.proofs.lemmas.List.Sorted.{All-permutation}
use Rattle.esa_lists.specs.Ordered.{ordered, put_before}
use Rattle.esa_lists.proofs.OrderedLaws.{IsPermutation-ordered}

module _ {X Y : Type 0} (R : Y → Y → Ordering) (S : X → X → Ordering) (f : X → Y) (P : X → Type 0) (keeps : (x y : X) → P x → P y → R (f x) (f y) ≡ S x y) where
  put_before-map : (x : X) (ys : List X) → P x → All P ys → put_before R (f x) (map f ys) ≡ map f (put_before S x ys)
  unfolding put_before
  put_before-map x [] one all = refl
  put_before-map x (y ∷ ys) one all =
      ap (λ r. cond (is_lt r) (f y ∷ put_before R (f x) (map f ys)) (f x ∷ f y ∷ map f ys)) (keeps y x (all 0 y (omega arith)) one)
      ∙ elim (is_lt (S y x)) as (λ b. cond b (f y ∷ put_before R (f x) (map f ys)) (f x ∷ f y ∷ map f ys) ≡ map f (cond b (y ∷ put_before S x ys) (x ∷ y ∷ ys))) [
        | true ↦ ap (λ zs. f y ∷ zs) (put_before-map x ys one (All-tail P y ys all))
        | false ↦ refl
      ]

  -- where f keeps the order of the elements, the images in order are the images of the elements in order
  pub ordered-map : (xs : List X) → All P xs → ordered R (map f xs) ≡ map f (ordered S xs)
  unfolding ordered
  ordered-map [] all = refl
  ordered-map (x ∷ xs) all =
      ap (put_before R (f x)) (ordered-map xs (All-tail P x xs all))
      ∙ put_before-map x (ordered S xs) (all 0 x (omega arith)) (All-permutation P xs (ordered S xs) (IsPermutation-ordered S xs) (All-tail P x xs all))

-- lists of one length compare as they do with equal ends
pub slice_cmp-append : {X : Type 0} (R : X → X → Ordering) (xs ys us vs : List X) → length xs ≡ length ys → slice_cmp R us vs ≡ Equal → slice_cmp R (xs ++ us) (ys ++ vs) ≡ slice_cmp R xs ys
slice_cmp-append R [] [] us vs same ends = ends
slice_cmp-append R [] (y ∷ ys) us vs same ends = absurd (omega arith)
slice_cmp-append R (x ∷ xs) [] us vs same ends = absurd (omega arith)
slice_cmp-append R (x ∷ xs) (y ∷ ys) us vs same ends = ap (ordering_then (R x y)) (slice_cmp-append R xs ys us vs (omega arith) ends)
