-- The laws of the field. Sums and products of polynomials are additive in each factor, so what two additive functions
-- give at the eight powers of x they give everywhere: there the laws of the product are computed.
use Rattle.std.proofs.Common.{◌≡◌, ◌∙◌, ℕ, zero, suc, ◌+◌, ◌-◌, ◌*◌, ◌/◌, ◌%◌, ◌^◌, ◌<◌, Bool, true, refl, sym, ap, ap₂, subst, arith, inl, inr}
use Rattle.std.specs.Prelude.{◌&&◌, nat_eq, nat_lt}
use Rattle.std.specs.Int.RustNames.{bit_xor}
use Rattle.std.proofs.lemmas.Bool.{cases_lt, and_parts, eqb-true, ltb-true}
use Rattle.std.proofs.lemmas.Nat.{xor_comm, xor_shr, xor_mod, xor_block, xor_of_8, mod_below, pow_pos}
use Rattle.std.proofs.Math.Nat.{pow-suc, mod-eq_of_lt}
use lib.Bits.{xor_assoc, xor_self, xor_zero_r, xor_shifted}
use Rattle.esa_shares.specs.Field.{coefficient, product, remainder, times, power, inverse}

-- ---- tests of all numbers below another

unfoldable pub all_below : ℕ → (ℕ → Bool) → Bool
all_below zero test = true
all_below (suc n) test = test n && all_below n test

pub tested : (n : ℕ) (test : ℕ → Bool) → all_below n test ≡ true → (i : ℕ) → i < n → test i ≡ true
unfolding all_below
tested zero test all i less = absurd (omega (arith, less))
tested (suc n) test all i less =
    let split = and_parts (test n) (all_below n test) all in
    elim (cases_lt i n) [
      | inl below ↦ tested n test split.1 i below
      | inr above ↦ let same : n ≡ i = omega (arith, less, above) in subst (λ j. test j ≡ true) same split.0
    ]

-- ---- sums

pub swapped : (a b c d : ℕ) → bit_xor (bit_xor a b) (bit_xor c d) ≡ bit_xor (bit_xor a c) (bit_xor b d)
swapped a b c d =
    xor_assoc a b (bit_xor c d)
    ∙ ap (bit_xor a) (sym (xor_assoc b c d) ∙ ap (λ s. bit_xor s d) (xor_comm b c) ∙ xor_assoc c b d)
    ∙ sym (xor_assoc a c (bit_xor b d))

pub Additive : (ℕ → ℕ) → Type 0
Additive f = (a b : ℕ) → f (bit_xor a b) ≡ bit_xor (f a) (f b)

at_zero : (f : ℕ → ℕ) → Additive f → f 0 ≡ 0
unfolding Additive
at_zero f adds =
    let twice : f 0 ≡ bit_xor (f 0) (f 0) = adds 0 0 in
    twice ∙ xor_self (f 0)

-- what holds of 0, of the powers of x, and of sums, holds of all polynomials
by_bits : (P : ℕ → Type 0) → P 0 → ((a b : ℕ) → P a → P b → P (bit_xor a b)) → (k : ℕ) → ((i : ℕ) → i < k → P (2 ^ i)) → (a : ℕ) → a < 2 ^ k → P a
by_bits P none sums zero powers a small = let is : 0 ≡ a = omega (arith, small) in subst P is none
by_bits P none sums (suc k) powers a small =
    let go = by_bits P none sums k (λ i less. powers i (omega (arith, less))) in
    elim (cases_lt a (2 ^ k)) [
      | inl below ↦ go a below
      | inr above ↦
          let doubled : 2 ^ suc k ≡ 2 ^ k * 2 = pow-suc 2 k in
          let rest : a - 2 ^ k < 2 ^ k = omega (arith, small, doubled, above) in
          let whole : 1 * 2 ^ k + (a - 2 ^ k) ≡ a = omega (arith, above) in
          let one : 1 * 2 ^ k ≡ 2 ^ k = omega arith in
          subst P (ap (λ high. bit_xor high (a - 2 ^ k)) (sym one) ∙ xor_shifted 1 k (a - 2 ^ k) rest ∙ whole)
          (sums (2 ^ k) (a - 2 ^ k) (powers k (omega arith)) (go (a - 2 ^ k) rest))
    ]

pub agree : (f g : ℕ → ℕ) → Additive f → Additive g → ((i : ℕ) → i < 8 → f (2 ^ i) ≡ g (2 ^ i)) → (a : ℕ) → a < 256 → f a ≡ g a
unfolding Additive
agree f g adds others powers a small =
    by_bits (λ a. f a ≡ g a) (at_zero f adds ∙ sym (at_zero g others))
    (λ a b one two. adds a b ∙ ap₂ bit_xor one two ∙ sym (others a b)) 8 powers a small

-- ---- products and remainders are additive

-- a multiple by one bit
multiple : (s t v : ℕ) → s < 2 → t < 2 → bit_xor s t * v ≡ bit_xor (s * v) (t * v)
multiple zero t v one two = let none : 0 * v ≡ 0 = omega arith in sym (ap (λ x. bit_xor x (t * v)) none)
multiple (suc zero) zero v one two = let none : 0 * v ≡ 0 = omega arith in sym (ap (bit_xor (1 * v)) none ∙ xor_zero_r (1 * v))
multiple (suc zero) (suc zero) v one two = let none : 0 * v ≡ 0 = omega arith in none ∙ sym (xor_self (1 * v))
multiple (suc zero) (suc (suc t)) v one two = absurd (omega (arith, two))
multiple (suc (suc s)) t v one two = absurd (omega (arith, one))

bit_small : (a k : ℕ) → coefficient a k < 2
bit_small a k = mod_below (a / 2 ^ k) 2 (omega arith)

bit_adds : (k a b : ℕ) → coefficient (bit_xor a b) k ≡ bit_xor (coefficient a k) (coefficient b k)
bit_adds k a b = ap (λ n. n % 2) (xor_shr a b k) ∙ xor_mod (a / 2 ^ k) (b / 2 ^ k) 1

term_adds : (k v a b : ℕ) → coefficient (bit_xor a b) k * v ≡ bit_xor (coefficient a k * v) (coefficient b k * v)
term_adds k v a b = ap (λ n. n * v) (bit_adds k a b) ∙ multiple (coefficient a k) (coefficient b k) v (bit_small a k) (bit_small b k)

shifted : (k a b : ℕ) → bit_xor a b * 2 ^ k ≡ bit_xor (a * 2 ^ k) (b * 2 ^ k)
shifted k a b =
    let small : 0 < 2 ^ k = pow_pos k in
    let one : a * 2 ^ k + 0 ≡ a * 2 ^ k = omega arith in
    let two : b * 2 ^ k + 0 ≡ b * 2 ^ k = omega arith in
    let all : bit_xor a b * 2 ^ k + 0 ≡ bit_xor a b * 2 ^ k = omega arith in
    sym (ap₂ bit_xor (sym one) (sym two) ∙ xor_block k a b 0 0 small small ∙ all)

scaled : (s a b : ℕ) → s < 2 → s * bit_xor a b ≡ bit_xor (s * a) (s * b)
scaled zero a b small =
    let first : 0 * a ≡ 0 = omega arith in
    let second : 0 * b ≡ 0 = omega arith in
    let none : 0 * bit_xor a b ≡ 0 = omega arith in
    none ∙ sym (ap₂ bit_xor first second)
scaled (suc zero) a b small =
    let first : 1 * a ≡ a = omega arith in
    let second : 1 * b ≡ b = omega arith in
    let all : 1 * bit_xor a b ≡ bit_xor a b = omega arith in
    all ∙ sym (ap₂ bit_xor first second)
scaled (suc (suc s)) a b small = absurd (omega (arith, small))

product_adds_left : (k q : ℕ) → Additive (λ p. product k p q)
unfolding Additive
product_adds_left zero q a b = refl
product_adds_left (suc k) q a b =
    ap₂ bit_xor (product_adds_left k q a b) (term_adds k (q * 2 ^ k) a b) ∙ swapped (product k a q) (product k b q) (coefficient a k * (q * 2 ^ k)) (coefficient b k * (q * 2 ^ k))

product_adds_right : (k p : ℕ) → Additive (product k p)
unfolding Additive
product_adds_right zero p a b = refl
product_adds_right (suc k) p a b =
    ap₂ bit_xor (product_adds_right k p a b)
    (ap (λ n. coefficient p k * n) (shifted k a b) ∙ scaled (coefficient p k) (a * 2 ^ k) (b * 2 ^ k) (bit_small p k))
    ∙ swapped (product k p a) (product k p b) (coefficient p k * (a * 2 ^ k)) (coefficient p k * (b * 2 ^ k))

remainder_adds : (k : ℕ) → Additive (remainder k)
unfolding Additive
remainder_adds zero a b = refl
remainder_adds (suc k) a b =
    let modulus = 283 * 2 ^ k in
    ap (remainder k) (ap (bit_xor (bit_xor a b)) (term_adds (8 + k) modulus a b) ∙ swapped a b (coefficient a (8 + k) * modulus) (coefficient b (8 + k) * modulus))
    ∙ remainder_adds k (bit_xor a (coefficient a (8 + k) * modulus)) (bit_xor b (coefficient b (8 + k) * modulus))

-- ---- the laws of the product, below 256

reduced : ℕ → ℕ → ℕ
reduced a b = remainder 7 (product 8 a b)

left : (b : ℕ) → Additive (λ a. reduced a b)
unfolding Additive reduced
left b x y = ap (remainder 7) (product_adds_left 8 b x y) ∙ remainder_adds 7 (product 8 x b) (product 8 y b)

right : (a : ℕ) → Additive (reduced a)
unfolding Additive reduced
right a x y = ap (remainder 7) (product_adds_right 8 a x y) ∙ remainder_adds 7 (product 8 a x) (product 8 a y)

powers_commute : all_below 8 (λ i. all_below 8 (λ j. nat_eq (reduced (2 ^ i) (2 ^ j)) (reduced (2 ^ j) (2 ^ i)))) ≡ true
unfolding all_below reduced
powers_commute = refl

powers_associate : all_below 8 (λ i. all_below 8 (λ j. all_below 8 (λ k. nat_eq (reduced (reduced (2 ^ i) (2 ^ j)) (2 ^ k)) (reduced (2 ^ i) (reduced (2 ^ j) (2 ^ k)))))) ≡ true
unfolding all_below reduced
powers_associate = refl

powers_stay : all_below 8 (λ i. nat_eq (reduced 1 (2 ^ i)) (2 ^ i)) ≡ true
unfolding all_below reduced
powers_stay = refl

powers_fit : all_below 8 (λ i. all_below 8 (λ j. nat_lt (reduced (2 ^ i) (2 ^ j)) 256)) ≡ true
unfolding all_below reduced
powers_fit = refl

commute : (a b : ℕ) → a < 256 → b < 256 → reduced a b ≡ reduced b a
commute a b small_a small_b =
    agree (λ a. reduced a b) (λ a. reduced b a) (left b) (right b)
    (λ i less. agree (λ b. reduced (2 ^ i) b) (λ b. reduced b (2 ^ i)) (right (2 ^ i)) (left (2 ^ i))
    (λ j below. eqb-true _ _ (tested 8 _ (tested 8 _ powers_commute i less) j below)) b small_b)
    a small_a

associate : (a b c : ℕ) → a < 256 → b < 256 → c < 256 → reduced (reduced a b) c ≡ reduced a (reduced b c)
unfolding Additive
associate a b c small_a small_b small_c =
    agree (λ a. reduced (reduced a b) c) (λ a. reduced a (reduced b c))
    (λ x y. ap (λ p. reduced p c) (left b x y) ∙ left c (reduced x b) (reduced y b)) (left (reduced b c))
    (λ i below_i. agree (λ b. reduced (reduced (2 ^ i) b) c) (λ b. reduced (2 ^ i) (reduced b c))
    (λ x y. ap (λ p. reduced p c) (right (2 ^ i) x y) ∙ left c (reduced (2 ^ i) x) (reduced (2 ^ i) y))
    (λ x y. ap (reduced (2 ^ i)) (left c x y) ∙ right (2 ^ i) (reduced x c) (reduced y c))
    (λ j below_j. agree (λ c. reduced (reduced (2 ^ i) (2 ^ j)) c) (λ c. reduced (2 ^ i) (reduced (2 ^ j) c))
    (right (reduced (2 ^ i) (2 ^ j)))
    (λ x y. ap (reduced (2 ^ i)) (right (2 ^ j) x y) ∙ right (2 ^ i) (reduced (2 ^ j) x) (reduced (2 ^ j) y))
    (λ k below_k. eqb-true _ _ (tested 8 _ (tested 8 _ (tested 8 _ powers_associate i below_i) j below_j) k below_k)) c small_c)
    b small_b)
    a small_a

stays : (a : ℕ) → a < 256 → reduced 1 a ≡ a
unfolding Additive
stays a small = agree (reduced 1) (λ a. a) (right 1) (λ x y. refl) (λ i less. eqb-true _ _ (tested 8 _ powers_stay i less)) a small

fits : (a b : ℕ) → a < 256 → b < 256 → reduced a b < 256
unfolding Additive
fits a b small_a small_b =
    by_bits (λ a. reduced a b < 256) (subst (λ n. n < 256) (sym (at_zero (λ a. reduced a b) (left b))) (omega arith))
    (λ x y one two. subst (λ n. n < 256) (sym (left b x y)) (xor_of_8 _ _ one two)) 8
    (λ i less. by_bits (λ b. reduced (2 ^ i) b < 256) (subst (λ n. n < 256) (sym (at_zero (reduced (2 ^ i)) (right (2 ^ i)))) (omega arith))
    (λ x y one two. subst (λ n. n < 256) (sym (right (2 ^ i) x y)) (xor_of_8 _ _ one two)) 8
    (λ j below. ltb-true _ _ (tested 8 _ (tested 8 _ powers_fit i less) j below)) b small_b)
    a small_a

-- ---- the laws of the product, of all numbers

low : (a : ℕ) → a % 256 < 256
low a = mod_below a 256 (omega arith)

low_sum : (a b : ℕ) → bit_xor a b % 256 ≡ bit_xor (a % 256) (b % 256)
low_sum a b = xor_mod a b 8

pub times_below : (a b : ℕ) → times a b < 256
unfolding times reduced
times_below a b = fits (a % 256) (b % 256) (low a) (low b)

low_product : (a b : ℕ) → times a b % 256 ≡ times a b
low_product a b = mod-eq_of_lt (times_below a b)

pub times_comm : (a b : ℕ) → times a b ≡ times b a
unfolding times reduced
times_comm a b = commute (a % 256) (b % 256) (low a) (low b)

pub times_assoc : (a b c : ℕ) → times (times a b) c ≡ times a (times b c)
unfolding times reduced
times_assoc a b c =
    ap (λ p. reduced p (c % 256)) (low_product a b) ∙ associate (a % 256) (b % 256) (c % 256) (low a) (low b) (low c)
    ∙ ap (reduced (a % 256)) (sym (low_product b c))

-- the product of a sum is the sum of the products
pub sum_times : (a b c : ℕ) → times (bit_xor a b) c ≡ bit_xor (times a c) (times b c)
unfolding times reduced Additive
sum_times a b c = ap (λ s. reduced s (c % 256)) (low_sum a b) ∙ left (c % 256) (a % 256) (b % 256)

pub times_sum : (a b c : ℕ) → times a (bit_xor b c) ≡ bit_xor (times a b) (times a c)
times_sum a b c = times_comm a (bit_xor b c) ∙ sum_times b c a ∙ ap₂ bit_xor (times_comm b a) (times_comm c a)

pub times_one : (a : ℕ) → a < 256 → times 1 a ≡ a
unfolding times reduced
times_one a small = ap (reduced 1) (mod-eq_of_lt small) ∙ stays a small

pub one_times : (a : ℕ) → a < 256 → times a 1 ≡ a
one_times a small = times_comm a 1 ∙ times_one a small

pub times_zero : (a : ℕ) → times a 0 ≡ 0
times_zero a =
    let twice : times a 0 ≡ bit_xor (times a 0) (times a 0) = times_sum a 0 0 in
    twice ∙ xor_self (times a 0)

pub zero_times : (a : ℕ) → times 0 a ≡ 0
zero_times a = times_comm 0 a ∙ times_zero a

-- the second factor of three may come first
pub times_turned : (a b c : ℕ) → times a (times b c) ≡ times b (times a c)
times_turned a b c = sym (times_assoc a b c) ∙ ap (λ p. times p c) (times_comm a b) ∙ times_assoc b a c

-- ---- powers and inverses

pub power_below : (a n : ℕ) → power a n < 256
unfolding power
power_below a zero = omega arith
power_below a (suc n) = times_below a (power a n)

pub power_adds : (a m n : ℕ) → power a (m + n) ≡ times (power a m) (power a n)
unfolding power
power_adds a zero n = let none : 0 + n ≡ n = omega arith in ap (power a) none ∙ sym (times_one (power a n) (power_below a n))
power_adds a (suc m) n =
    let more : suc m + n ≡ suc (m + n) = omega arith in
    ap (power a) more ∙ ap (times a) (power_adds a m n) ∙ sym (times_assoc a (power a m) (power a n))

-- each but 0 has its inverse
powers_invert : all_below 255 (λ i. nat_eq (times (i + 1) (inverse (i + 1))) 1) ≡ true
unfolding all_below times power
powers_invert = refl

pub times_inverse : (a : ℕ) → a < 256 → 0 < a → times a (inverse a) ≡ 1
times_inverse a small some =
    let less : a - 1 < 255 = omega (arith, small, some) in
    let same : a - 1 + 1 ≡ a = omega (arith, some) in
    subst (λ n. times n (inverse n) ≡ 1) same (eqb-true _ _ (tested 255 _ powers_invert (a - 1) less))

pub inverse_below : (a : ℕ) → inverse a < 256
inverse_below a = power_below a 254

-- an element is gone from a product by its inverse
pub divided : (a b c : ℕ) → a < 256 → b < 256 → 0 < a → times b a ≡ c → b ≡ times c (inverse a)
divided a b c small_a small_b some is =
    sym (one_times b small_b) ∙ ap (times b) (sym (times_inverse a small_a some))
    ∙ sym (times_assoc b a (inverse a)) ∙ ap (λ n. times n (inverse a)) is

-- what gives 1 with an element is its inverse
pub inverse_only : (a b : ℕ) → a < 256 → b < 256 → 0 < a → times a b ≡ 1 → b ≡ inverse a
inverse_only a b small_a small_b some one =
    divided a b 1 small_a small_b some (times_comm b a ∙ one) ∙ times_one (inverse a) (inverse_below a)
