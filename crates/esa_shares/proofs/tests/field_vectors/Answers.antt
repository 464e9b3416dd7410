use Rattle.std.proofs.Common.{ℕ, zero, suc, ◌<◌, [], ◌∷◌, get_or, refl, arith}
use Rattle.std.specs.List.{IsDistinct}
use Rattle.esa_shares.proofs.tests.field_vectors.Goals as goal

some : (k d : ℕ) → k < 2 → 0 < get_or (1 ∷ 2 ∷ []) k d
some zero d less = omega arith
some (suc zero) d less = omega arith
some (suc (suc k)) d less = absurd (omega (arith, less))

pub recover-requires-clause-points : goal.recover-requires-clause-points
unfolding IsDistinct
recover-requires-clause-points g c = record { distinct = ((refl, tt), (tt, tt)); some = some }

pub explain-requires-clause-points : goal.explain-requires-clause-points
unfolding IsDistinct
explain-requires-clause-points g c = record { distinct = ((refl, tt), (tt, tt)); some = some }
