-- A list in rising order is the one such list of its elements, for a total order in which only equal
-- elements tie.
use Rattle.std.proofs.Common.{◌≡◌, ℕ, suc, zero, ◌+◌, ◌<◌, Bool, true, false, cond, List, [], ◌∷◌, length, get_or, sym, refl, ap, ◌∙◌, subst, arith, add-one}
use Rattle.std.specs.declared.cmp.Ordering.{Ordering}
use Rattle.std.specs.declared.cmp.Ordering.TheVariants.{Less, Equal, Greater}
use Rattle.std.specs.Ordering.{is_lt, is_eq, eq_by_cmp, ordering_reverse}
use Rattle.std.specs.Cmp.{IsTotalOrder, tied_itself}
use Rattle.std.specs.List.Sorted.{IsSorted, IsPermutation}
use Rattle.std.specs.FinMap.{IsAntisymmetric}
use Rattle.std.proofs.lemmas.List.Sorted.{ranks_by, sorted_far, sum_by-IsPermutation, IsPermutation-refl, IsPermutation-sym, IsPermutation-cons, IsPermutation-trans, IsPermutation-middle}
use Rattle.std.proofs.lemmas.List.Sums.{sum_by-cons}
use Rattle.esa_lists.specs.Ordered.{ordered, put_before}
use Rattle.esa_lists.specs.Tally.{times}

-- no element is less than x
abbrev pub NoneLess : {X : Type 0} → (X → X → Ordering) → X → List X → Type 0
NoneLess R x [] = Unit {0}
NoneLess R x (y ∷ ys) = (is_lt (R y x) ≡ false) × NoneLess R x ys

-- no element is less than an earlier one
abbrev pub Rises : {X : Type 0} → (X → X → Ordering) → List X → Type 0
Rises R [] = Unit {0}
Rises R (x ∷ xs) = NoneLess R x xs × Rises R xs

NoneLess-from_places : {X : Type 0} (R : X → X → Ordering) (x : X) (ys : List X) → ((k : ℕ) (d : X) → k < length ys → is_lt (R (get_or ys k d) x) ≡ false) → NoneLess R x ys
NoneLess-from_places R x [] at = tt
NoneLess-from_places R x (y ∷ ys) at = (at 0 y (omega arith), NoneLess-from_places R x ys (λ k d h. at (suc k) d (omega arith)))

IsSorted-tail : {X : Type 0} (R : X → X → Ordering) (x : X) (xs : List X) → IsSorted R (x ∷ xs) → IsSorted R xs
IsSorted-tail R x xs up = λ k d low h.
    let next : suc k + 1 ≡ suc (k + 1) = omega arith in
    subst (λ n. is_lt (R (get_or (x ∷ xs) n d) (get_or xs k d)) ≡ false) next (up (suc k) d (omega arith) (omega arith))

module _ {X : Type 0} {R : X → X → Ordering} (o : IsTotalOrder R) where
  pub Rises-from_sorted : (xs : List X) → IsSorted R xs → Rises R xs
  Rises-from_sorted [] up = tt
  Rises-from_sorted (x ∷ xs) up =
      (NoneLess-from_places R x xs (λ k d h. sorted_far (λ y z. is_lt (R y z)) (ranks_by o (λ y. y)) (x ∷ xs) up 0 (suc k) d (omega arith) (omega arith)), Rises-from_sorted xs (IsSorted-tail R x xs up))

neighbours : {X : Type 0} (R : X → X → Ordering) (xs : List X) → Rises R xs → (k : ℕ) (d : X) → suc k < length xs → is_lt (R (get_or xs (suc k) d) (get_or xs k d)) ≡ false
neighbours R [] up k d h = absurd (omega arith)
neighbours R (x ∷ []) up k d h = absurd (omega arith)
neighbours R (x ∷ y ∷ ys) up zero d h = up.0.0
neighbours R (x ∷ y ∷ ys) up (suc k) d h = neighbours R (y ∷ ys) up.1 k d (omega arith)

pub IsSorted-from_rises : {X : Type 0} (R : X → X → Ordering) (xs : List X) → Rises R xs → IsSorted R xs
IsSorted-from_rises R xs up = λ k d low h. rw add-one (neighbours R xs up k d (omega arith))

IsPermutation-put_before : {X : Type 0} (R : X → X → Ordering) (x : X) (ys : List X) → IsPermutation (x ∷ ys) (put_before R x ys)
unfolding put_before
IsPermutation-put_before R x [] = IsPermutation-refl (x ∷ [])
IsPermutation-put_before R x (y ∷ ys) =
    elim (is_lt (R y x)) as (λ b. IsPermutation (x ∷ y ∷ ys) (cond b (y ∷ put_before R x ys) (x ∷ y ∷ ys))) [
      | true ↦ IsPermutation-trans _ _ _ (IsPermutation-middle (x ∷ []) y ys) (IsPermutation-cons y _ _ (IsPermutation-put_before R x ys))
      | false ↦ IsPermutation-refl (x ∷ y ∷ ys)
    ]

-- it only moves elements
pub IsPermutation-ordered : {X : Type 0} (R : X → X → Ordering) (xs : List X) → IsPermutation xs (ordered R xs)
unfolding ordered
IsPermutation-ordered R [] = IsPermutation-refl []
IsPermutation-ordered R (x ∷ xs) = IsPermutation-trans _ _ _ (IsPermutation-cons x _ _ (IsPermutation-ordered R xs)) (IsPermutation-put_before R x (ordered R xs))

NoneLess-put_before : {X : Type 0} (R : X → X → Ordering) (x y : X) (ys : List X) → is_lt (R x y) ≡ false → NoneLess R y ys → NoneLess R y (put_before R x ys)
unfolding put_before
NoneLess-put_before R x y [] isnt none = (isnt, tt)
NoneLess-put_before R x y (z ∷ ys) isnt none =
    elim (is_lt (R z x)) as (λ b. NoneLess R y (cond b (z ∷ put_before R x ys) (x ∷ z ∷ ys))) [
      | true ↦ (none.0, NoneLess-put_before R x y ys isnt none.1)
      | false ↦ (isnt, none)
    ]

module _ {X : Type 0} {R : X → X → Ordering} (o : IsTotalOrder R) where
  NoneLess-chain : (x y : X) (ys : List X) → is_lt (R y x) ≡ false → NoneLess R y ys → NoneLess R x ys
  NoneLess-chain x y [] isnt none = tt
  NoneLess-chain x y (z ∷ ys) isnt none = ((ranks_by o (λ a. a)).chain z y x none.0 isnt, NoneLess-chain x y ys isnt none.1)

  Rises-put_before : (x : X) (ys : List X) → Rises R ys → Rises R (put_before R x ys)
  unfolding put_before
  Rises-put_before x [] up = (tt, tt)
  Rises-put_before x (y ∷ ys) up =
      elim (is_lt (R y x)) as (λ b. is_lt (R y x) ≡ b → Rises R (cond b (y ∷ put_before R x ys) (x ∷ y ∷ ys))) [
        | true ↦ λ e. (NoneLess-put_before R x y ys ((ranks_by o (λ a. a)).one_way y x e) up.0, Rises-put_before x ys up.1)
        | false ↦ λ e. ((e, NoneLess-chain x y ys e up.0), up)
      ] refl

  pub Rises-ordered : (xs : List X) → Rises R (ordered R xs)
  unfolding ordered
  Rises-ordered [] = tt
  Rises-ordered (x ∷ xs) = Rises-put_before x (ordered R xs) (Rises-ordered xs)

  -- it rises
  pub IsSorted-ordered : (xs : List X) → IsSorted R (ordered R xs)
  IsSorted-ordered xs = IsSorted-from_rises R (ordered R xs) (Rises-ordered xs)

pub times-cons : {X : Type 0} (R : X → X → Ordering) (q x : X) (xs : List X) → times R q (x ∷ xs) ≡ cond (eq_by_cmp R q x) 1 0 + times R q xs
times-cons R q x xs = sum_by-cons _ x xs

counted_later : (b : Bool) (n m : ℕ) → n ≡ cond b 1 0 + m → b ≡ false → 0 < n → 0 < m
counted_later true n m split other some = cc
counted_later false n m split other some = omega arith

-- where no element is less than x, nothing that stands there is
pub not_less : {X : Type 0} {R : X → X → Ordering} (o : IsTotalOrder R) (q x : X) (ys : List X) → NoneLess R x ys → 0 < times R q ys → is_lt (R q x) ≡ false
not_less o q x [] none some = absurd (omega arith)
not_less {R = R} o q x (y ∷ ys) none some =
    elim (R q y) as (λ r. R q y ≡ r → is_lt (R q x) ≡ false) [
      | Less ↦ λ e. not_less o q x ys none.1 (counted_later (eq_by_cmp R q y) _ _ (times-cons R q y ys) (ap is_eq e) some)
      | Equal ↦ λ e. ap is_lt (o.congr q y x e) ∙ none.0
      | Greater ↦ λ e. not_less o q x ys none.1 (counted_later (eq_by_cmp R q y) _ _ (times-cons R q y ys) (ap is_eq e) some)
    ] refl

occurs : {X : Type 0} {R : X → X → Ordering} (o : IsTotalOrder R) (x : X) (xs : List X) → 0 < times R x (x ∷ xs)
occurs {R = R} o x xs = let split : times R x (x ∷ xs) ≡ 1 + times R x xs = times-cons R x x xs ∙ ap (λ r. cond (is_eq r) 1 0 + times R x xs) (tied_itself o x) in omega arith

-- of two elements neither of which is less than the other, each is the other
module _ {X : Type 0} {R : X → X → Ordering} (o : IsTotalOrder R) (same : IsAntisymmetric R) where
  neither_less : (x y : X) → is_lt (R x y) ≡ false → is_lt (R y x) ≡ false → x ≡ y
  neither_less x y here there =
      elim (R x y) as (λ r. R x y ≡ r → x ≡ y) [
        | Less ↦ λ e. cc (ap is_lt e)
        | Equal ↦ λ e. same x y e
        | Greater ↦ λ e. cc (ap is_lt (o.antisymm y x ∙ ap ordering_reverse e))
      ] refl

  -- x is not less than the head of a rising list in which it stands
  not_before_head : (x y : X) (ys : List X) → NoneLess R y ys → 0 < times R x (y ∷ ys) → is_lt (R x y) ≡ false
  not_before_head x y ys none some = not_less o x y (y ∷ ys) (ap is_lt (tied_itself o y), none) some

  rest_counts : (x : X) (xs ys : List X) → ((q : X) → times R q (x ∷ xs) ≡ times R q (x ∷ ys)) → (q : X) → times R q xs ≡ times R q ys
  rest_counts x xs ys counts q = omega (arith, counts q, times-cons R q x xs, times-cons R q x ys)

  -- rising lists in which each element stands equally often are equal
  same_rise : (xs ys : List X) → Rises R xs → Rises R ys → ((q : X) → times R q xs ≡ times R q ys) → xs ≡ ys
  same_rise [] [] up there counts = refl
  same_rise [] (y ∷ ys) up there counts = absurd (omega (arith, counts y, occurs o y ys))
  same_rise (x ∷ xs) [] up there counts = absurd (omega (arith, counts x, occurs o x xs))
  same_rise (x ∷ xs) (y ∷ ys) up there counts =
      let heads : x ≡ y = neither_less x y (not_before_head x y ys there.0 (subst (λ n. 0 < n) (counts x) (occurs o x xs))) (not_before_head y x xs up.0 (subst (λ n. 0 < n) (sym (counts y)) (occurs o y ys))) in
      let tails : xs ≡ ys = same_rise xs ys up.1 there.1 (rest_counts x xs ys (λ q. counts q ∙ ap (λ z. times R q (z ∷ ys)) (sym heads))) in
      λ i. heads i ∷ tails i

  -- lists in which each element stands equally often are one list in order
  pub ordered-counts : (xs ys : List X) → ((q : X) → times R q xs ≡ times R q ys) → ordered R xs ≡ ordered R ys
  ordered-counts xs ys counts = same_rise _ _ (Rises-ordered o xs) (Rises-ordered o ys) (λ q.
      sum_by-IsPermutation _ xs (ordered R xs) (IsPermutation-ordered R xs) ∙ counts q ∙ sym (sum_by-IsPermutation _ ys (ordered R ys) (IsPermutation-ordered R ys)))

  -- so is a list in another order
  pub ordered-permutation : (xs ys : List X) → IsPermutation xs ys → ordered R xs ≡ ordered R ys
  ordered-permutation xs ys moved = ordered-counts xs ys (λ q. sym (sum_by-IsPermutation _ xs ys moved))

  -- a rising list is in order as it is
  pub ordered-sorted : (xs : List X) → IsSorted R xs → ordered R xs ≡ xs
  ordered-sorted xs up = same_rise _ _ (Rises-ordered o xs) (Rises-from_sorted o xs up) (λ q. sum_by-IsPermutation _ xs (ordered R xs) (IsPermutation-ordered R xs))

  -- what a sort leaves
  pub sorted_permutation : (xs ys : List X) → IsPermutation xs ys → IsSorted R ys → ys ≡ ordered R xs
  sorted_permutation xs ys moved up = sym (ordered-sorted ys up) ∙ sym (ordered-permutation xs ys moved)

  -- two sorts of lists with the same elements agree
  pub sorted_alike : (xs ys : List X) → IsSorted R xs → IsSorted R ys → ((q : X) → times R q xs ≡ times R q ys) → xs ≡ ys
  sorted_alike xs ys up there counts = same_rise xs ys (Rises-from_sorted o xs up) (Rises-from_sorted o ys there) counts

  -- lists in which each element stands equally often have the same elements
  pub IsPermutation-from_counts : (xs ys : List X) → ((q : X) → times R q xs ≡ times R q ys) → IsPermutation xs ys
  IsPermutation-from_counts xs ys counts =
      IsPermutation-trans xs (ordered R xs) ys (IsPermutation-ordered R xs)
      (subst (λ zs. IsPermutation zs ys) (sym (ordered-counts xs ys counts)) (IsPermutation-sym ys (ordered R ys) (IsPermutation-ordered R ys)))
