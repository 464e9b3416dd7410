-- The tables hold the powers of 3 and their exponents.
use Rattle.std.proofs.Common.{◌≡◌, ◌∙◌, ℕ, zero, suc, ◌+◌, ◌-◌, ◌<◌, true, get_or, refl, sym, ap, subst, arith}
use Rattle.std.specs.Prelude.{◌&&◌, nat_eq, nat_lt}
use Rattle.std.proofs.lemmas.Bool.{and_parts, eqb-true, ltb-true}
use Rattle.esa_shares.specs.declared.field.TheConstants.{POWERS, EXPONENTS}
use Rattle.esa_shares.specs.Field.{times, power}
use Rattle.esa_shares.proofs.FieldLaws.{all_below, tested, power_adds}

powers_go_on : all_below 509 (λ k. nat_eq (get_or POWERS (k + 1) 0) (times 3 (get_or POWERS k 0))) ≡ true
unfolding all_below times
powers_go_on = refl

exponents_hold : all_below 255 (λ i. nat_eq (get_or POWERS (get_or EXPONENTS (i + 1) 0) 0) (i + 1) && nat_lt (get_or EXPONENTS (i + 1) 0) 255) ≡ true
unfolding all_below
exponents_hold = refl

pub power_at : (k : ℕ) → k < 510 → get_or POWERS k 0 ≡ power 3 k
unfolding power
power_at zero less = refl
power_at (suc k) less =
    let more : k + 1 ≡ suc k = omega arith in
    ap (λ n. get_or POWERS n 0) (sym more) ∙ eqb-true _ _ (tested 509 _ powers_go_on k (omega (arith, less))) ∙ ap (times 3) (power_at k (omega (arith, less)))

pub record HasExponent (a e : ℕ) : Type 0 where
  pub is : power 3 e ≡ a
  pub small : e < 255

pub exponent_at : (a : ℕ) → a < 256 → 0 < a → HasExponent a (get_or EXPONENTS a 0)
exponent_at a small some =
    let less : a - 1 < 255 = omega (arith, small, some) in
    let same : a - 1 + 1 ≡ a = omega (arith, some) in
    subst (λ n. HasExponent n (get_or EXPONENTS n 0)) same
    (let parts = and_parts _ _ (tested 255 _ exponents_hold (a - 1) less) in
    let below = ltb-true _ _ parts.1 in
    record { is = sym (power_at _ (omega (arith, below))) ∙ eqb-true _ _ parts.0; small = below })

full_circle : get_or POWERS 255 0 ≡ 1
full_circle = refl

-- the powers of an exponent and of what is left to 255 multiply to 1
pub one_at : (a e : ℕ) → power 3 e ≡ a → e < 255 → times a (power 3 (255 - e)) ≡ 1
one_at a e is small =
    let whole : e + (255 - e) ≡ 255 = omega (arith, small) in
    ap (λ n. times n (power 3 (255 - e))) (sym is) ∙ sym (power_adds 3 e (255 - e)) ∙ ap (power 3) whole
    ∙ sym (power_at 255 (omega arith)) ∙ full_circle
