-- Numbers below a bound that differ, as many as the bound: they are all the numbers below it.
use Rattle.std.proofs.Common.{◌≡◌, ◌≢◌, ℕ, ◌+◌, ◌<◌, ◌≤◌, Bool, true, false, ◌||◌, cond, nat_eq, List, [], ◌∷◌, ◌++◌, length, get_or, inl, inr, refl, sym, ap, ◌∙◌, subst, arith, length-append}
use Rattle.std.specs.Cmp.{nat_cmp_total, nat_eq_equiv, unsigned_tied}
use Rattle.std.specs.FinMap.{nat_cmp-IsAntisymmetric}
use Rattle.std.specs.List.{All, AllByRecursion, IsDistinct, list_any, count_by}
use Rattle.std.specs.List.Sorted.{IsPermutation}
use Rattle.std.specs.Ordering.{nat_cmp}
use Rattle.std.proofs.lemmas.Bool.{eqb-true, eq-eqb, ne_eqb, cases_lt}
use Rattle.std.proofs.lemmas.List.Folds.{list_any_none, list_any-append}
use Rattle.std.proofs.lemmas.List.FromFn.{length-range_with_len, get_or-range_with_len}
use Rattle.std.proofs.lemmas.List.Sums.{sum_by-cons}
use Rattle.std.proofs.lemmas.Map.Keys.{IsDistinct-head, IsDistinct-tail, IsDistinct-push, IsDistinct-from_apart}
use Rattle.std.proofs.lemmas.Map.Made.{length-le_from_is_member}
use Rattle.esa_lists.specs.Tally.{times}
use Rattle.esa_lists.proofs.OrderedLaws.{IsPermutation-from_counts}
use Rattle.esa_params.specs.Sizes.{below}
use Rattle.esa_coins.proofs.Found.{any_below}

-- the number stands in the list
abbrev pub stands_in : ℕ → List ℕ → Bool
stands_in x xs = list_any (nat_eq x) xs

pub stands_in-below : (n x : ℕ) → x < n → stands_in x (below n) ≡ true
stands_in-below n x inside = any_below (nat_eq x) n x inside (eq-eqb x x refl)

pub below-from_stands_in : (n x : ℕ) (xs : List ℕ) → All (λ y. y < n) xs → stands_in x xs ≡ true → x < n
below-from_stands_in n x xs small stands =
    elim (cases_lt x n) [
      | inl less ↦ less
      | inr over ↦ absurd (not_there (list_any_none (nat_eq x) xs (λ k d inside. ne_eqb x _ (apart k d inside over))))
    ]
  where
    apart : (k d : ℕ) → k < length xs → n ≤ x → x ≢ get_or xs k d
    apart k d inside over = let least = small k d inside in omega arith

    not_there : stands_in x xs ≡ false → ⊥
    not_there gone = cc (sym stands ∙ gone)

pub all_below : (n : ℕ) → All (λ x. x < n) (below n)
all_below n = λ k d inside.
    let within : k < n = omega (arith, length-range_with_len 0 n) in
    subst (λ x. x < n) (sym (get_or-range_with_len 0 n k d within)) (omega arith)

pub IsDistinct-below : (n : ℕ) → IsDistinct nat_eq (below n)
IsDistinct-below n =
    IsDistinct-from_apart nat_eq (below n) (λ i j d first second.
    let j_in : j < n = omega (arith, length-range_with_len 0 n) in
    ne_eqb _ _ (apart i j (get_or-range_with_len 0 n i d (omega arith)) (get_or-range_with_len 0 n j d j_in) first))
  where
    apart : {x y : ℕ} (i j : ℕ) → x ≡ 0 + i → y ≡ 0 + j → i < j → x ≢ y
    apart i j x_is y_is first = omega arith

-- ---- how often a number stands in a list of numbers that differ

gone_behind : (x : ℕ) (xs : List ℕ) → AllByRecursion (λ y. nat_eq x y ≡ false) xs → stands_in x xs ≡ false
gone_behind x [] apart = refl
gone_behind x (y ∷ ys) apart = ap (λ b. b || stands_in x ys) apart.0 ∙ gone_behind x ys apart.1

abbrev count_of : ℕ → List ℕ → ℕ
count_of x xs = count_by (nat_eq x) xs

once : (q x : ℕ) (xs : List ℕ) (same : Bool) → nat_eq q x ≡ same → count_of q xs ≡ cond (stands_in q xs) 1 0 → stands_in x xs ≡ false → cond same 1 0 + count_of q xs ≡ cond (same || stands_in q xs) 1 0
once q x xs true is counted gone =
    let not_again : stands_in q xs ≡ false = subst (λ y. stands_in y xs ≡ false) (sym (eqb-true q x is)) gone in
    let none : count_of q xs ≡ 0 = counted ∙ ap (λ b. cond b 1 0) not_again in
    omega arith
once q x xs false is counted gone = omega arith

count_of-distinct : (q : ℕ) (xs : List ℕ) → IsDistinct nat_eq xs → count_of q xs ≡ cond (stands_in q xs) 1 0
count_of-distinct q [] apart = refl
count_of-distinct q (x ∷ xs) apart =
    sum_by-cons (λ y. cond (nat_eq q y) 1 0) x xs
    ∙ once q x xs (nat_eq q x) refl (count_of-distinct q xs (IsDistinct-tail nat_eq x xs apart)) (gone_behind x xs (IsDistinct-head nat_eq x xs apart))

-- ---- all numbers below the bound are there

none_is_missing : (n q : ℕ) (xs : List ℕ) → length xs ≡ n → All (λ x. x < n) xs → IsDistinct nat_eq xs → q < n → stands_in q xs ≡ true
none_is_missing n q xs full small apart inside =
    elim (stands_in q xs) as (λ b. stands_in q xs ≡ b → b ≡ true) [
      | true ↦ λ _. refl
      | false ↦ λ missing. absurd (too_many (length-le_from_is_member nat_eq_equiv (xs ++ q ∷ []) (below n) (IsDistinct-push nat_eq_equiv xs q apart missing) inside_too))
    ] refl
  where
    too_many : length (xs ++ q ∷ []) ≤ length (below n) → ⊥
    too_many fits = omega (arith, length-append xs (q ∷ []), length-range_with_len 0 n)

    one_of : (z : ℕ) (first last : Bool) → stands_in z xs ≡ first → nat_eq z q ≡ last → (first || (last || false)) ≡ true → z < n
    one_of z true last is same stands = below-from_stands_in n z xs small is
    one_of z false true is same stands = subst (λ y. y < n) (sym (eqb-true z q same)) inside
    one_of z false false is same stands = cc

    inside_too : (z : ℕ) → stands_in z (xs ++ q ∷ []) ≡ true → stands_in z (below n) ≡ true
    inside_too z stands = stands_in-below n z (one_of z (stands_in z xs) (nat_eq z q) refl refl (sym (list_any-append (nat_eq z) xs (q ∷ [])) ∙ stands))

same_standing : (n q : ℕ) (xs : List ℕ) → length xs ≡ n → All (λ x. x < n) xs → IsDistinct nat_eq xs → stands_in q (below n) ≡ stands_in q xs
same_standing n q xs full small apart =
    elim (stands_in q xs) as (λ b. stands_in q xs ≡ b → stands_in q (below n) ≡ b) [
      | true ↦ λ stands. stands_in-below n q (below-from_stands_in n q xs small stands)
      | false ↦ λ gone. not_below gone
    ] refl
  where
    not_below : stands_in q xs ≡ false → stands_in q (below n) ≡ false
    not_below gone =
        elim (stands_in q (below n)) as (λ b. stands_in q (below n) ≡ b → b ≡ false) [
          | true ↦ λ stands. cc (sym gone ∙ none_is_missing n q xs full small apart (below-from_stands_in n q (below n) (all_below n) stands))
          | false ↦ λ _. refl
        ] refl

times-count_of : (q : ℕ) (xs : List ℕ) → times nat_cmp q xs ≡ count_of q xs
times-count_of q xs = ap (λ test. count_by test xs) (λ i y. unsigned_tied q y i)

-- n numbers below n that differ are the numbers below n
pub permutes-different : (n : ℕ) (xs : List ℕ) → length xs ≡ n → All (λ x. x < n) xs → IsDistinct nat_eq xs → IsPermutation (below n) xs
permutes-different n xs full small apart =
    IsPermutation-from_counts nat_cmp_total nat_cmp-IsAntisymmetric (below n) xs (λ q.
    times-count_of q (below n) ∙ count_of-distinct q (below n) (IsDistinct-below n)
    ∙ ap (λ b. cond b 1 0) (same_standing n q xs full small apart)
    ∙ sym (times-count_of q xs ∙ count_of-distinct q xs apart))
