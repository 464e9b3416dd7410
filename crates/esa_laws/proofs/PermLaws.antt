-- A list of n entries in which each number below n stands once is a permutation of these numbers.
use Rattle.std.proofs.Common.{◌≡◌, ℕ, zero, suc, ◌+◌, ◌<◌, Bool, true, false, ◌==◌, List, [], ◌∷◌, ◌++◌, length, refl, sym, ◌∙◌, ap, subst, arith, length-append}
use Rattle.std.specs.List.{count_by}
use Rattle.std.specs.List.Sorted.{IsPermutation}
use Rattle.std.proofs.lemmas.List.{nil_from_length}
use Rattle.std.proofs.lemmas.List.Sums.{sum_by-cons, sum_by-append}
use Rattle.std.proofs.lemmas.List.Sorted.{IsPermutation-refl, IsPermutation-sym, IsPermutation-trans, IsPermutation-cons, IsPermutation-to_front, IsPermutation-middle}
use Rattle.esa_laws.proofs.Tests.{bit, equal, same, unequal}
use Rattle.esa_params.specs.Sizes.{below}
use Rattle.esa_laws.proofs.Ranges.{below-suc}

abbrev pub occurrences : ℕ → List ℕ → ℕ
occurrences j xs = count_by (λ i. i == j) xs

record Split (xs : List ℕ) (j : ℕ) : Type 0 where
  before : List ℕ
  behind : List ℕ
  joins : xs ≡ before ++ j ∷ behind

pub occurs-cons : (x j : ℕ) (xs : List ℕ) → occurrences j (x ∷ xs) ≡ bit (x == j) + occurrences j xs
occurs-cons x j xs = sum_by-cons (λ i. bit (i == j)) x xs

-- a number that occurs stands somewhere
split-here : (x j : ℕ) (xs : List ℕ) (c : Bool) → (x == j) ≡ c → (c ≡ false → Split xs j) → Split (x ∷ xs) j
split-here x j xs true e later = let is = equal x j e in record { before = []; behind = xs; joins = ap (λ y. y ∷ xs) is }
split-here x j xs false e later = let rest = later refl in record { before = x ∷ rest.before; behind = rest.behind; joins = ap (λ y. x ∷ y) rest.joins }

split-at : (xs : List ℕ) (j : ℕ) → 0 < occurrences j xs → Split xs j
split-at [] j h = absurd (omega arith)
split-at (x ∷ xs) j h = split-here x j xs (x == j) refl (λ e. split-at xs j (omega (arith, occurs-cons x j xs, ap bit e)))

pub permutes : (n : ℕ) (xs : List ℕ) → length xs ≡ n → ((j : ℕ) → j < n → occurrences j xs ≡ 1) → IsPermutation (below n) xs
permutes zero xs long each = let empty = nil_from_length xs long in subst (λ y. IsPermutation [] y) (sym empty) (IsPermutation-refl [])
permutes (suc n) xs long each =
    let s = split-at xs n (omega (arith, each n (omega arith))) in
    let ys = s.before in
    let zs = s.behind in
    let whole : (j : ℕ) → occurrences j xs ≡ occurrences j ys + (bit (n == j) + occurrences j zs) =
    λ j. ap (occurrences j) s.joins ∙ sum_by-append (λ i. bit (i == j)) ys (n ∷ zs) ∙ ap (λ y. occurrences j ys + y) (occurs-cons n j zs) in
    let both : (j : ℕ) → occurrences j (ys ++ zs) ≡ occurrences j ys + occurrences j zs = λ j. sum_by-append (λ i. bit (i == j)) ys zs in
    let fewer : length (ys ++ zs) ≡ n =
    omega (arith, ap length s.joins, length-append ys (n ∷ zs), length-append ys zs) in
    let once : (j : ℕ) → j < n → occurrences j (ys ++ zs) ≡ 1 = λ j j_in.
    let no : bit (n == j) ≡ 0 = ap bit (unequal n j (λ e. absurd (omega arith))) in
    omega (arith, whole j, both j, no, each j (omega arith)) in
    let others = permutes n (ys ++ zs) fewer once in
    subst (λ y. IsPermutation y xs) (sym (below-suc n)) (subst (λ y. IsPermutation (below n ++ n ∷ []) y) (sym s.joins)
    (IsPermutation-trans _ _ _ (IsPermutation-to_front (below n) n)
    (IsPermutation-trans _ _ _ (IsPermutation-cons n (below n) (ys ++ zs) others) (IsPermutation-sym _ _ (IsPermutation-middle ys n zs)))))

pub occurs-append : (j : ℕ) (xs ys : List ℕ) → occurrences j (xs ++ ys) ≡ occurrences j xs + occurrences j ys
occurs-append j xs ys = sum_by-append (λ i. bit (i == j)) xs ys

-- lists in which each number occurs equally often
pub permutes-counted : (ys xs : List ℕ) → ((j : ℕ) → occurrences j xs ≡ occurrences j ys) → IsPermutation ys xs
permutes-counted [] [] equal = IsPermutation-refl []
permutes-counted [] (x ∷ xs) equal = absurd (omega (arith, equal x, occurs-cons x x xs, ap bit (same x)))
permutes-counted (y ∷ ys) xs equal =
    let s = split-at xs y (omega (arith, equal y, occurs-cons y y ys, ap bit (same y))) in
    let fewer : (j : ℕ) → occurrences j (s.before ++ s.behind) ≡ occurrences j ys = λ j. omega (
      arith,
      equal j,
      ap (occurrences j) s.joins,
      occurs-append j s.before (y ∷ s.behind),
      occurs-append j s.before s.behind,
      occurs-cons y j s.behind,
      occurs-cons y j ys,
    ) in
    let others = permutes-counted ys (s.before ++ s.behind) fewer in
    subst (λ z. IsPermutation (y ∷ ys) z) (sym s.joins)
    (IsPermutation-trans _ _ _ (IsPermutation-cons y ys (s.before ++ s.behind) others) (IsPermutation-sym _ _ (IsPermutation-middle s.before y s.behind)))
