-- Marking the place of each number of a list.
use Rattle.std.proofs.Common.{◌≡◌, ◌≢◌, ℕ, ◌+◌, ◌^◌, ◌<◌, ◌≤◌, ◌↔◌, IsTrue, Bool, true, false, ◌||◌, nat_eq, List, [], ◌∷◌, ◌++◌, length, get_or, set, take, replicate, refl, sym, ap, ◌∙◌, subst, arith, length-set, get_or-set_same, get_or-set_other, below_more}
use Rattle.std.specs.Cmp.{nat_eq_equiv}
use Rattle.std.specs.List.{All, IsDistinct}
use Rattle.std.specs.List.Sorted.{IsPermutation}
use Rattle.std.proofs.lemmas.Bool.{eqb-true, eqb-false}
use Rattle.std.proofs.lemmas.List.{take_more, take_all, get_or-take, get_or-replicate, get_or_default, length-take-le}
use Rattle.std.proofs.lemmas.List.FromFn.{length-range_with_len}
use Rattle.std.proofs.lemmas.List.Folds.{list_any_none, list_any_more}
use Rattle.std.proofs.lemmas.List.Sorted.{All-permutation, length_permutation}
use Rattle.std.proofs.lemmas.Map.Keys.{IsDistinct-push, IsDistinct-IsPermutation, apart_from_distinct}
use Rattle.esa_params.specs.Sizes.{below}
use Rattle.esa_coins.specs.Order.{is_order}
use Rattle.esa_coins.specs.OrderLaws.{is_order-permutes, is_order-permuted}
use Rattle.esa_coins.proofs.Different.{stands_in, all_below, IsDistinct-below, permutes-different}

-- the first i numbers are below n and differ, and exactly their places are marked
pub record Marked (n : ℕ) (numbers : List ℕ) (i : ℕ) (seen : List Bool) : Type 0 where
  pub places : length seen ≡ n
  pub small : (k : ℕ) → k < i → get_or numbers k 0 < n
  pub different : IsDistinct nat_eq (take i numbers)
  pub marks : (x : ℕ) (d : Bool) → x < n → get_or seen x d ≡ stands_in x (take i numbers)

nothing_differs : IsDistinct nat_eq []
unfolding IsDistinct
nothing_differs = tt

pub none_marked : (numbers : List ℕ) (seen : List Bool) → seen ≡ replicate (length seen) false → Marked (length seen) numbers 0 seen
none_marked numbers seen clear = record {
  places = refl;
  small = λ k none. absurd (omega arith);
  different = nothing_differs;
  marks = λ x d inside. ap (λ list. get_or list x d) clear ∙ get_or-replicate (length seen) x false d inside;
}

-- one number more
pub one_marked : (n : ℕ) (numbers : List ℕ) (i x : ℕ) (d : Bool) (seen : List Bool) → i < length numbers → x ≡ get_or numbers i 0 → x < n → get_or seen x d ≡ false → Marked n numbers i seen → Marked n numbers (i + 1) (set seen x true)
one_marked n numbers i x d seen inside is place new so_far =
    let front : take (i + 1) numbers ≡ take i numbers ++ x ∷ [] = take_more numbers i 0 inside ∙ ap (λ y. take i numbers ++ y ∷ []) (sym is) in
    record {
      places = length-set seen x true ∙ so_far.places;
      small = below_next n numbers i x is place so_far.small;
      different = subst (λ list. IsDistinct nat_eq list) (sym front) (IsDistinct-push nat_eq_equiv (take i numbers) x so_far.different (sym (so_far.marks x d place) ∙ new));
      marks = λ y e y_in. mark_at y e y_in (nat_eq y x) refl ∙ sym (list_any_more (nat_eq y) numbers i 0 inside ∙ ap (λ z. stands_in y (take i numbers) || nat_eq y z) (sym is));
    }
  where
    below_next : (n : ℕ) (numbers : List ℕ) (i x : ℕ) → x ≡ get_or numbers i 0 → x < n → ((k : ℕ) → k < i → get_or numbers k 0 < n) → (k : ℕ) → k < i + 1 → get_or numbers k 0 < n
    below_next n numbers i x is place before = below_more _ _ before (subst (λ y. y < n) is place)

    or_true : (b : Bool) → true ≡ (b || true)
    or_true true = refl
    or_true false = refl

    or_false : (b : Bool) → b ≡ (b || false)
    or_false true = refl
    or_false false = refl

    mark_at : (y : ℕ) (e : Bool) → y < n → (same : Bool) → nat_eq y x ≡ same → get_or (set seen x true) y e ≡ (stands_in y (take i numbers) || same)
    mark_at y e y_in true same =
        let at : y ≡ x = eqb-true y x same in
        let there : x < length seen = omega (arith, so_far.places) in
        subst (λ z. get_or (set seen x true) z e ≡ true) (sym at) (rw get_or-set_same refl) ∙ or_true _
    mark_at y e y_in false same =
        let apart : y ≢ x = eqb-false y x same in
        rw get_or-set_other (so_far.marks y e y_in ∙ or_false _)

-- ---- what the marks tell

pub all_marked : (n : ℕ) (numbers : List ℕ) (i : ℕ) (seen : List Bool) → length numbers ≡ n → length numbers ≤ i → Marked n numbers i seen → is_order n numbers ≡ true
all_marked n numbers i seen full whole so_far =
    is_order-permuted n numbers (permutes-different n numbers full (λ k d inside. subst (λ y. y < n) (get_or_default numbers k 0 d inside) (so_far.small k (omega arith)))
    (subst (λ list. IsDistinct nat_eq list) (take_all i numbers whole) so_far.different))

no_order : (n : ℕ) (numbers : List ℕ) → (IsPermutation (below n) numbers → ⊥) → is_order n numbers ≡ false
no_order n numbers refuted =
    elim (is_order n numbers) as (λ b. is_order n numbers ≡ b → b ≡ false) [ true ↦ λ is. absurd (refuted (is_order-permutes n numbers is)) | false ↦ λ _. refl ] refl

-- there are more or fewer numbers
pub not_as_many : (n : ℕ) (numbers : List ℕ) → length numbers ≢ n → is_order n numbers ≡ false
not_as_many n numbers other = no_order n numbers (λ permutes. other (length_permutation (below n) numbers permutes ∙ length-range_with_len 0 n))

-- a number has no place
pub no_place : (n : ℕ) (numbers : List ℕ) (i : ℕ) → i < length numbers → n ≤ get_or numbers i 0 → is_order n numbers ≡ false
no_place n numbers i inside over =
    no_order n numbers (λ permutes. refute (All-permutation (λ x. x < n) (below n) numbers permutes (all_below n) i 0 inside))
  where
    refute : get_or numbers i 0 < n → ⊥
    refute less = omega arith

-- a number stands there twice
pub marked_before : (n : ℕ) (numbers : List ℕ) (i x : ℕ) (d : Bool) (seen : List Bool) → i < length numbers → x ≡ get_or numbers i 0 → x < n → get_or seen x d ≡ true → Marked n numbers i seen → is_order n numbers ≡ false
marked_before n numbers i x d seen inside is place marked so_far =
    no_order n numbers (λ permutes. refute (IsDistinct-IsPermutation nat_eq nat_eq_equiv.symm (below n) numbers permutes (IsDistinct-below n)))
  where
    refute : IsDistinct nat_eq numbers → ⊥
    refute apart =
        let gone : stands_in x (take i numbers) ≡ false =
        list_any_none (nat_eq x) (take i numbers) (λ k e within.
        let early : k < i = omega (arith, length-take-le i numbers (omega arith)) in
        nat_eq_equiv.symm x (get_or (take i numbers) k e)
        ∙ ap (λ y. nat_eq y x) (get_or-take i numbers k e early)
        ∙ ap (λ y. nat_eq (get_or numbers k e) y) (is ∙ get_or_default numbers i 0 e inside)
        ∙ apart_from_distinct nat_eq numbers k i e apart early inside) in
        cc (sym marked ∙ so_far.marks x d place ∙ gone)

-- a test for orders tells permutations
pub order_permutes : (n : ℕ) (numbers : List ℕ) (test : Bool) → test ≡ is_order n numbers → IsTrue test ↔ IsPermutation (below n) numbers
order_permutes n numbers test is = (λ holds. is_order-permutes n numbers (sym is ∙ holds), λ permutes. is ∙ is_order-permuted n numbers permutes)

pub small-permuted : (n : ℕ) (numbers : List ℕ) → n ≤ 2 ^ 32 → IsPermutation (below n) numbers → All (λ x. x < 2 ^ 32) numbers
small-permuted n numbers few permutes = All-permutation (λ x. x < 2 ^ 32) (below n) numbers permutes (λ k d inside. let small = all_below n k d inside in omega arith)
