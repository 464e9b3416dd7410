-- What one attempt draws.
use Rattle.std.specs.Prelude.{◌≡◌, ℕ, ◌+◌, ◌*◌, ◌<◌, List, [], ◌∷◌, length, All, IsPermutation, if◌then◌else◌, ◌==◌}
use Rattle.esa_params.specs.Sizes.{Sizes, size, below}

-- a list of targets for each bucket, one for each of its places, and an order for each target
pub record Draw : Type 0 where
  pub targets : ℕ → List ℕ
  pub order : ℕ → List ℕ

-- the draw is one for these sizes: each place has a target, which is an intermediate bucket, and each order names each
-- position of an import once
pub record IsDrawn (p : Sizes) (d : Draw) : Type 0 where
  pub target_for_each : (j : ℕ) → j < p.b → length (d.targets j) ≡ size p j
  pub targets_below : (j : ℕ) → j < p.b → All (λ target. target < p.b) (d.targets j)
  pub orders_permute : (i : ℕ) → i < p.b → IsPermutation (below (p.b * p.c + p.k)) (d.order i)

-- what coins draw in an attempt, by their lists for each attempt
abbrev pub drawn : (ℕ → ℕ → List ℕ) → (ℕ → ℕ → List ℕ) → ℕ → Draw
drawn target_list order_list attempt = record { targets = target_list attempt; order = order_list attempt }

-- the elements that have the target i, where each element's target stands at its index in the first list
abbrev pub chosen : {X : Type 0} → ℕ → List ℕ → List X → List X
chosen i [] xs = []
chosen i (target ∷ targets) [] = []
chosen i (target ∷ targets) (x ∷ xs) = if target == i then x ∷ chosen i targets xs else chosen i targets xs
