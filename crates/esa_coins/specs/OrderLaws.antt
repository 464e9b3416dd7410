-- An order is a permutation of the numbers below its length.
use Rattle.std.proofs.Common.{◌≡◌, ℕ, ◌+◌, ◌<◌, ◌≤◌, true, false, cond, ◌==◌, List, get_or, refl, ap, ◌∙◌, subst, arith}
use Rattle.std.specs.Cmp.{nat_cmp_total}
use Rattle.std.specs.FinMap.{nat_cmp-IsAntisymmetric}
use Rattle.std.specs.declared.cmp.Ordering.TheVariants.{Less, Equal, Greater}
use Rattle.std.specs.List.Sorted.{IsPermutation, IsSorted}
use Rattle.std.specs.Ordering.{nat_cmp, is_lt}
use Rattle.std.proofs.lemmas.Bool.{le-ltb}
use Rattle.std.proofs.lemmas.List.FromFn.{length-range_with_len, get_or-range_with_len}
use Rattle.std.proofs.lemmas.List.Sorted.{IsPermutation-sym}
use Rattle.std.proofs.lemmas.Slice.Eq.{bytes_eq-Decides}
use Rattle.esa_lists.specs.Ordered.{ordered}
use Rattle.esa_lists.proofs.OrderedLaws.{IsPermutation-ordered, ordered-permutation, ordered-sorted}
use Rattle.esa_params.specs.Sizes.{below}
use Rattle.esa_coins.specs.Order.{is_order}

not_less : (x y : ℕ) → x ≤ y → is_lt (nat_cmp y x) ≡ false
not_less x y least =
    ap (λ less. is_lt (cond less Less (cond (y == x) Equal Greater))) (le-ltb y x least)
    ∙ elim (y == x) as (λ same. is_lt (cond same Equal Greater) ≡ false) [ true ↦ refl | false ↦ refl ]

IsSorted-below : (n : ℕ) → IsSorted nat_cmp (below n)
IsSorted-below n = λ k d low inside.
    let next : k + 1 < n = omega (arith, length-range_with_len 0 n) in
    not_less (get_or (below n) k d) (get_or (below n) (k + 1) d) (omega (arith, get_or-range_with_len 0 n k d (omega arith), get_or-range_with_len 0 n (k + 1) d next))

pub is_order-permutes : (n : ℕ) (numbers : List ℕ) → is_order n numbers ≡ true → IsPermutation (below n) numbers
is_order-permutes n numbers is =
    let same : ordered nat_cmp numbers ≡ below n = (bytes_eq-Decides (ordered nat_cmp numbers) (below n)).0 is in
    IsPermutation-sym numbers (below n) (subst (λ list. IsPermutation numbers list) same (IsPermutation-ordered nat_cmp numbers))

pub is_order-permuted : (n : ℕ) (numbers : List ℕ) → IsPermutation (below n) numbers → is_order n numbers ≡ true
is_order-permuted n numbers permutes =
    (bytes_eq-Decides (ordered nat_cmp numbers) (below n)).1
    (ordered-permutation nat_cmp_total nat_cmp-IsAntisymmetric numbers (below n) (IsPermutation-sym (below n) numbers permutes)
    ∙ ordered-sorted nat_cmp_total nat_cmp-IsAntisymmetric (below n) (IsSorted-below n))
