-- Sums over a list of which one element changes, and counts.
use Rattle.std.proofs.Common.{◌≡◌, ◌≢◌, ℕ, zero, suc, ◌+◌, ◌<◌, ◌≤◌, Bool, true, false, cond, eqb, List, [], ◌∷◌, ◌++◌, length, set, sum_by, count_by, All, refl, sym, ap, ◌∙◌, eq-eqb, ne_eqb, arith}
use Rattle.std.proofs.lemmas.List.Sums.{sum_by-cons, sum_by_push}
use Rattle.std.proofs.lemmas.List.Elements.{All-nil, All-cons}
use mathlib.Core.Option.{some, some-injective, some-ne-none}
use lib.ListN.{get_elem?}
use Rattle.esa_turnstile.specs.Entries.{times}

module _ {A : Type 0} (f : A → ℕ) where
  pub sum-set : (xs : List A) (i : ℕ) (a b : A) → get_elem? xs i ≡ some a → sum_by f (set xs i b) + f a ≡ sum_by f xs + f b
  sum-set [] i a b e = absurd (some-ne-none a (sym e))
  sum-set (x ∷ xs) zero a b e = omega (arith, sum_by-cons f b xs, sum_by-cons f x xs, ap f (some-injective x a e))
  sum-set (x ∷ xs) (suc i) a b e = omega (arith, sum-set xs i a b e, sum_by-cons f x (set xs i b), sum_by-cons f x xs)

  pub at-le-sum : (xs : List A) (i : ℕ) (a : A) → get_elem? xs i ≡ some a → f a ≤ sum_by f xs
  at-le-sum [] i a e = absurd (some-ne-none a (sym e))
  at-le-sum (x ∷ xs) zero a e = omega (arith, sum_by-cons f x xs, ap f (some-injective x a e))
  at-le-sum (x ∷ xs) (suc i) a e = omega (arith, at-le-sum xs i a e, sum_by-cons f x xs)

  pub two-le-sum : (xs : List A) (i j : ℕ) (a b : A) → i ≢ j → get_elem? xs i ≡ some a → get_elem? xs j ≡ some b → f a + f b ≤ sum_by f xs
  two-le-sum [] i j a b ne e g = absurd (some-ne-none a (sym e))
  two-le-sum (x ∷ xs) zero zero a b ne e g = absurd (ne refl)
  two-le-sum (x ∷ xs) zero (suc j) a b ne e g = omega (arith, at-le-sum xs j b g, sum_by-cons f x xs, ap f (some-injective x a e))
  two-le-sum (x ∷ xs) (suc i) zero a b ne e g = omega (arith, at-le-sum xs i a e, sum_by-cons f x xs, ap f (some-injective x b g))
  two-le-sum (x ∷ xs) (suc i) (suc j) a b ne e g = omega (arith, two-le-sum xs i j a b (λ h. ne (ap suc h)) e g, sum_by-cons f x xs)

-- one more entry
pub times-push : (x : ℕ) (xs : List ℕ) (y : ℕ) → times x (xs ++ y ∷ []) ≡ times x xs + cond (eqb y x) 1 0
times-push x xs y = sum_by_push (λ z. cond (eqb z x) 1 0) xs y

pub times-push_same : (x : ℕ) (xs : List ℕ) → times x (xs ++ x ∷ []) ≡ times x xs + 1
times-push_same x xs = times-push x xs x ∙ ap (λ (b : Bool). times x xs + cond b 1 0) (eq-eqb x x refl)

pub times-push_other : (x : ℕ) (xs : List ℕ) (y : ℕ) → y ≢ x → times x (xs ++ y ∷ []) ≡ times x xs
times-push_other x xs y ne = let e : times x (xs ++ y ∷ []) ≡ times x xs + 0 = times-push x xs y ∙ ap (λ (b : Bool). times x xs + cond b 1 0) (ne_eqb y x ne) in omega arith

cond-none : (b : Bool) (n m : ℕ) → n ≡ cond b 1 0 + m → n ≡ 0 → b ≡ false
cond-none true n m e z = absurd (omega arith)
cond-none false n m e z = refl

-- where nothing passes the test, each element fails it
pub none-pass : {A : Type 0} (p : A → Bool) (xs : List A) → count_by p xs ≡ 0 → All (λ x. p x ≡ false) xs
none-pass {A} p [] e = All-nil (λ (x : A). p x ≡ false)
none-pass {A} p (x ∷ xs) e =
    let c : count_by p (x ∷ xs) ≡ cond (p x) 1 0 + count_by p xs = sum_by-cons (λ (y : A). cond (p y) 1 0) x xs in
    All-cons (λ (y : A). p y ≡ false) x xs (cond-none (p x) _ _ c e) (none-pass p xs (omega arith))

pub at-below : {A : Type 0} (xs : List A) (i : ℕ) (a : A) → get_elem? xs i ≡ some a → i < length xs
at-below [] i a e = absurd (some-ne-none a (sym e))
at-below (x ∷ xs) zero a e = omega arith
at-below (x ∷ xs) (suc i) a e = let h = at-below xs i a e in omega arith
