-- Sums over the numbers below n.
use Rattle.std.proofs.Common.{◌≡◌, ℕ, zero, suc, ◌+◌, ◌*◌, ◌≤◌, ◌<◌, ⊎_elim, Bool, cond, ◌==◌, refl, ◌∙◌, ap, arith, List, [], ◌∷◌, map, sym}
use Rattle.std.specs.List.{sum_by, flat_map}
use Rattle.std.proofs.lemmas.List.Sums.{sum_by-cons, sum_by-append}
use Rattle.std.proofs.lemmas.Bool.{cases_lt, eq-eqb}
use Rattle.esa_laws.proofs.Tests.{bit, unequal}
use Rattle.esa_params.specs.Sizes.{below}
use Rattle.esa_laws.proofs.Ranges.{sum-below-suc, sum-below-same}

pub sum-below-zero : (f : ℕ → ℕ) (n : ℕ) → ((x : ℕ) → x < n → f x ≡ 0) → sum_by f (below n) ≡ 0
sum-below-zero f zero none = refl
sum-below-zero f (suc n) none = omega (arith, sum-below-suc f n, sum-below-zero f n (λ x h. none x (omega arith)), none n (omega arith))

pub sum-below-add : (f g : ℕ → ℕ) (n : ℕ) → sum_by (λ x. f x + g x) (below n) ≡ sum_by f (below n) + sum_by g (below n)
sum-below-add f g zero = refl
sum-below-add f g (suc n) = omega (arith, sum-below-suc (λ x. f x + g x) n, sum-below-suc f n, sum-below-suc g n, sum-below-add f g n)

pub sum-below-le : (f : ℕ → ℕ) (n m : ℕ) → ((x : ℕ) → x < n → f x ≤ m) → sum_by f (below n) ≤ n * m
sum-below-le f zero m few = omega arith
sum-below-le f (suc n) m few = omega (arith, sum-below-suc f n, sum-below-le f n m (λ x h. few x (omega arith)), few n (omega arith))

-- where the sum is as large as it can be, each term is
pub sum-below-full : (f : ℕ → ℕ) (n m : ℕ) → ((x : ℕ) → x < n → f x ≤ m) → sum_by f (below n) ≡ n * m → (x : ℕ) → x < n → f x ≡ m
sum-below-full f zero m few full x x_in = absurd (omega arith)
sum-below-full f (suc n) m few full x x_in =
    let before = sum-below-le f n m (λ y h. few y (omega arith)) in
    let last = few n (omega arith) in
    let split = sum-below-suc f n in
    let here : f n ≡ m = omega (arith, before, last, split, full) in
    let rest : sum_by f (below n) ≡ n * m = omega (arith, before, last, split, full) in
    ⊎_elim
    (λ (less : x < n). sum-below-full f n m (λ y h. few y (omega arith)) rest x less)
    (λ (at_n : n ≤ x). let e : x ≡ n = omega arith in ap f e ∙ here)
    (cases_lt x n)

-- where each term is m, so is the sum
pub sum-below-each : (f : ℕ → ℕ) (n m : ℕ) → ((x : ℕ) → x < n → f x ≡ m) → sum_by f (below n) ≡ n * m
sum-below-each f zero m each = omega arith
sum-below-each f (suc n) m each = omega (arith, sum-below-suc f n, sum-below-each f n m (λ x h. each x (omega arith)), each n (omega arith))

-- one number is hit once
pub hit-once : (g n : ℕ) → g < n → sum_by (λ j. cond (g == j) 1 0) (below n) ≡ 1
hit-once g zero g_in = absurd (omega arith)
hit-once g (suc n) g_in = ⊎_elim
    (λ (less : g < n).
    let no = ap bit (unequal g n (λ e. absurd (omega arith))) in
    omega (arith, sum-below-suc (λ j. cond (g == j) 1 0) n, hit-once g n less, no))
    (λ (at_n : n ≤ g).
    let e : g ≡ n = omega arith in
    let yes = ap bit (eq-eqb g n e) in
    let none = sum-below-zero (λ j. cond (g == j) 1 0) n (λ x x_in. ap bit (unequal g x (λ z. absurd (omega arith)))) in
    omega (arith, sum-below-suc (λ j. cond (g == j) 1 0) n, none, yes))
    (cases_lt g n)

pub hit-value : (g n h : ℕ) → g < n → sum_by (λ j. cond (g == j) h 0) (below n) ≡ h
hit-value g zero h g_in = absurd (omega arith)
hit-value g (suc n) h g_in = ⊎_elim
    (λ (less : g < n).
    let value : Bool → ℕ = λ c. cond c h 0 in
    let no = ap value (unequal g n (λ e. absurd (omega arith))) in
    omega (arith, sum-below-suc (λ j. cond (g == j) h 0) n, hit-value g n h less, no))
    (λ (at_n : n ≤ g).
    let value : Bool → ℕ = λ c. cond c h 0 in
    let e : g ≡ n = omega arith in
    let yes = ap value (eq-eqb g n e) in
    let none = sum-below-zero (λ j. cond (g == j) h 0) n (λ x x_in. ap value (unequal g x (λ z. absurd (omega arith)))) in
    omega (arith, sum-below-suc (λ j. cond (g == j) h 0) n, none, yes))
    (cases_lt g n)

pub sum-below-swap : (f : ℕ → ℕ → ℕ) (m n : ℕ)
    → sum_by (λ i. sum_by (λ j. f i j) (below n)) (below m) ≡ sum_by (λ j. sum_by (λ i. f i j) (below m)) (below n)
sum-below-swap f zero n = sym (sum-below-zero (λ j. sum_by (λ i. f i j) (below 0)) n (λ x x_in. refl))
sum-below-swap f (suc m) n =
    sum-below-suc (λ i. sum_by (λ j. f i j) (below n)) m
    ∙ ap (λ y. y + sum_by (λ j. f m j) (below n)) (sum-below-swap f m n)
    ∙ sym (sum-below-add (λ j. sum_by (λ i. f i j) (below m)) (λ j. f m j) n)
    ∙ sum-below-same (λ j. sum_by (λ i. f i j) (below m) + f m j) (λ j. sum_by (λ i. f i j) (below (suc m))) n (λ j j_in. sym (sum-below-suc (λ i. f i j) m))

-- the sum of a list made from another, and of lists joined
module _ {X Y : Type 0} where
  pub sum-of-map : (f : Y → ℕ) (g : X → Y) (xs : List X) → sum_by f (map g xs) ≡ sum_by (λ x. f (g x)) xs
  sum-of-map f g [] = refl
  sum-of-map f g (x ∷ xs) = sum_by-cons f (g x) (map g xs) ∙ ap (λ y. f (g x) + y) (sum-of-map f g xs) ∙ sym (sum_by-cons (λ x. f (g x)) x xs)

  pub sum-of-flat_map : (f : Y → ℕ) (g : X → List Y) (xs : List X) → sum_by f (flat_map g xs) ≡ sum_by (λ x. sum_by f (g x)) xs
  sum-of-flat_map f g [] = refl
  sum-of-flat_map f g (x ∷ xs) =
      sum_by-append f (g x) (flat_map g xs) ∙ ap (λ y. sum_by f (g x) + y) (sum-of-flat_map f g xs) ∙ sym (sum_by-cons (λ x. sum_by f (g x)) x xs)
