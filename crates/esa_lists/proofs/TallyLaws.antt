-- Counts of equal elements, and the tally of a list, which its order does not change. For a total order in
-- which only equal elements tie.
use Rattle.std.proofs.Common.{◌≡◌, ℕ, suc, zero, ◌+◌, cond, List, [], ◌∷◌, ◌++◌, Option, Some, None, sym, refl, ap, ◌∙◌, arith}
use Rattle.std.specs.Prelude.{unwrap_or}
use Rattle.std.specs.declared.cmp.Ordering.{Ordering}
use Rattle.std.specs.declared.cmp.Ordering.TheVariants.{Less, Equal, Greater}
use Rattle.std.specs.Ordering.{is_eq, eq_by_cmp}
use Rattle.std.specs.Cmp.{IsTotalOrder}
use Rattle.std.specs.List.Sorted.{IsPermutation}
use Rattle.std.specs.FinMap as map
use Rattle.std.specs.FinMap.{IsAntisymmetric}
use Rattle.std.proofs.lemmas.List.Sorted.{sum_by-IsPermutation}
use Rattle.std.proofs.lemmas.List.Sums.{sum_by-append}
use Rattle.esa_lists.specs.Ordered.{ordered}
use Rattle.esa_lists.specs.Tally.{times, tally}
use Rattle.esa_lists.proofs.OrderedLaws.{times-cons, IsPermutation-ordered}

pub times-append : {X : Type 0} (R : X → X → Ordering) (q : X) (xs ys : List X) → times R q (xs ++ ys) ≡ times R q xs + times R q ys
times-append R q xs ys = sum_by-append _ xs ys

pub times-permutation : {X : Type 0} (R : X → X → Ordering) (q : X) (xs ys : List X) → IsPermutation xs ys → times R q ys ≡ times R q xs
times-permutation R q xs ys moved = sum_by-IsPermutation _ xs ys moved

pub times-ordered : {X : Type 0} (R : X → X → Ordering) (q : X) (xs : List X) → times R q (ordered R xs) ≡ times R q xs
times-ordered R q xs = times-permutation R q xs (ordered R xs) (IsPermutation-ordered R xs)

-- a count as a tally has it: no entry for what does not stand there
abbrev pub entry_of : ℕ → Option ℕ
entry_of zero = None
entry_of (suc n) = Some (suc n)

unwrap_or-entry_of : (n : ℕ) → unwrap_or (entry_of n) 0 ≡ n
unwrap_or-entry_of zero = refl
unwrap_or-entry_of (suc n) = refl

entry_of-more : (n : ℕ) → Some (n + 1) ≡ entry_of (1 + n)
entry_of-more n = let left : n + 1 ≡ suc n = omega arith in let right : 1 + n ≡ suc n = omega arith in ap Some left ∙ sym (ap entry_of right)

module _ {X : Type 0} {R : X → X → Ordering} (o : IsTotalOrder R) where
  -- an element's times depend on what it ties with alone
  times-tied : (q x : X) (xs : List X) → R q x ≡ Equal → times R q xs ≡ times R x xs
  times-tied q x [] ties = refl
  times-tied q x (y ∷ ys) ties =
      times-cons R q y ys ∙ ap (λ r. cond (is_eq r) 1 0 + times R q ys) (o.congr q x y ties) ∙ ap (λ n. cond (eq_by_cmp R x y) 1 0 + n) (times-tied q x ys ties) ∙ sym (times-cons R x y ys)

  pub get-tally : (xs : List X) (q : X) → map.get (tally R xs) q ≡ entry_of (times R q xs)
  unfolding tally
  get-tally [] q = map.get-empty R q
  get-tally (x ∷ xs) q =
      map.get-insert o (tally R xs) x _ q ∙ elim (R q x) as (λ r. R q x ≡ r → cond (is_eq r) (Some (unwrap_or (map.get (tally R xs) x) 0 + 1)) (map.get (tally R xs) q) ≡ entry_of (times R q (x ∷ xs))) [
        | Less ↦ λ e. get-tally xs q ∙ ap entry_of (sym (times-cons R q x xs ∙ ap (λ r. cond (is_eq r) 1 0 + times R q xs) e ∙ omega arith))
        | Equal ↦ λ e. ap (λ n. Some (n + 1)) (ap (λ v. unwrap_or v 0) (get-tally xs x) ∙ unwrap_or-entry_of (times R x xs) ∙ sym (times-tied q x xs e))
            ∙ entry_of-more (times R q xs) ∙ ap entry_of (sym (times-cons R q x xs ∙ ap (λ r. cond (is_eq r) 1 0 + times R q xs) e))
        | Greater ↦ λ e. get-tally xs q ∙ ap entry_of (sym (times-cons R q x xs ∙ ap (λ r. cond (is_eq r) 1 0 + times R q xs) e ∙ omega arith))
      ] refl

module _ {X : Type 0} {R : X → X → Ordering} (o : IsTotalOrder R) (same : IsAntisymmetric R) where
  -- lists in which each element stands equally often have one tally
  pub tally-counts : (xs ys : List X) → ((q : X) → times R q xs ≡ times R q ys) → tally R xs ≡ tally R ys
  tally-counts xs ys counts = map.same_map o same _ _ (λ q. get-tally o xs q ∙ ap entry_of (counts q) ∙ sym (get-tally o ys q))

  -- so a tally does not depend on the order of the list
  pub tally-permutation : (xs ys : List X) → IsPermutation xs ys → tally R xs ≡ tally R ys
  tally-permutation xs ys moved = tally-counts xs ys (λ q. sym (times-permutation R q xs ys moved))

  pub tally-ordered : (xs : List X) → tally R (ordered R xs) ≡ tally R xs
  tally-ordered xs = sym (tally-permutation xs (ordered R xs) (IsPermutation-ordered R xs))
