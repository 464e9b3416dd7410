-- The sum of all counts, where a database is recovered.
use Rattle.std.proofs.Common.{◌≡◌, ◌↔◌, ℕ, ◌<◌, nat_lt, true, false, Ok, Err, refl, arith}
use Rattle.esa_recovery.specs.declared.refused.RecoverRefused.TheVariants.{Sum}

ok_not_err : {X E : Type 0} (value : X) (error : E) → Ok value ≡ Err error → ⊥
ok_not_err value error is = cc

-- it is no greater than a count may be
pub sum_fits : {X : Type 0} (value : X) (n : ℕ) → (Ok value ≡ Err Sum) ↔ (4294967295 < n) → nat_lt 4294967295 n ≡ false
sum_fits value n sum =
    elim (nat_lt 4294967295 n) as (λ past. nat_lt 4294967295 n ≡ past → past ≡ false) [
      | true ↦ λ is. absurd (ok_not_err value Sum (sum.1 (grind (arith, is))))
      | false ↦ λ is. refl
    ] refl

-- it is greater
pub sum_passes : (n : ℕ) → 4294967295 < n → nat_lt 4294967295 n ≡ true
sum_passes n past = grind (arith, past)
