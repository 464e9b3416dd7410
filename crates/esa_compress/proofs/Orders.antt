-- The orders of the tests name each index once.
use Rattle.std.proofs.Common.{◌≡◌, ℕ, zero, suc, ◌<◌, [], ◌∷◌, refl, arith}
use Rattle.std.specs.List.Sorted.{IsPermutation}
use Rattle.esa_params.specs.Sizes.{below}
use Rattle.esa_laws.proofs.PermLaws.{occurrences, permutes}

once-of-two : (j : ℕ) → j < 2 → occurrences j (1 ∷ 0 ∷ []) ≡ 1
once-of-two zero j_in = refl
once-of-two (suc zero) j_in = refl
once-of-two (suc (suc j)) j_in = absurd (omega arith)

pub two : IsPermutation (below 2) (1 ∷ 0 ∷ [])
two = permutes 2 (1 ∷ 0 ∷ []) refl once-of-two

once-of-four : (j : ℕ) → j < 4 → occurrences j (2 ∷ 0 ∷ 1 ∷ 3 ∷ []) ≡ 1
once-of-four zero j_in = refl
once-of-four (suc zero) j_in = refl
once-of-four (suc (suc zero)) j_in = refl
once-of-four (suc (suc (suc zero))) j_in = refl
once-of-four (suc (suc (suc (suc j)))) j_in = absurd (omega arith)

pub four : IsPermutation (below 4) (2 ∷ 0 ∷ 1 ∷ 3 ∷ [])
four = permutes 4 (2 ∷ 0 ∷ 1 ∷ 3 ∷ []) refl once-of-four
