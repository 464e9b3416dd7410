-- Coins whose targets are stored.
use Rattle.std.specs.Prelude.{◌≡◌, ℕ, ◌+◌, ◌*◌, ◌<◌, ◌≤◌, List, length, All, IsPermutation, slice_range}
use Rattle.std.proofs.Common.{ap, ◌∙◌, arith, take, drop, length-take-le, length-drop, ◌-◌}
use Rattle.std.proofs.Math.Nat.{mul-le-mul_right}
use Rattle.std.proofs.lemmas.List.Elements.{All-take, All-drop}
use Rattle.std.proofs.lemmas.List.Sorted.{IsPermutation-refl}
use Rattle.esa_params.specs.Sizes.{Sizes, ArePlanned, first, size}

-- a target for each place of each attempt, each of which is a bucket
abbrev pub AreStored : Sizes → List ℕ → Type 0
AreStored p targets = (length targets ≡ p.attempts * p.n) × All (λ target. target < p.b) targets

-- and the sizes are planned
pub record IsStored (p : Sizes) (targets : List ℕ) : Type 0 where
  pub planned : ArePlanned p
  pub each : length targets ≡ p.attempts * p.n
  pub below_each : All (λ target. target < p.b) targets

-- the targets of a bucket's places in an attempt
abbrev pub targets_at : Sizes → List ℕ → ℕ → ℕ → List ℕ
targets_at p targets attempt bucket = slice_range targets (attempt * p.n + first p bucket) (attempt * p.n + first p bucket + size p bucket)

pub target_for_each : (p : Sizes) (targets : List ℕ) → IsStored p targets → (attempt bucket : ℕ) → attempt < p.attempts
    → length (targets_at p targets attempt bucket) ≡ size p bucket
target_for_each p targets stored attempt bucket attempt_in =
    let from = attempt * p.n + first p bucket in
    let inside : (attempt + 1) * p.n ≤ p.attempts * p.n = mul-le-mul_right {m = attempt + 1} {n = p.attempts} p.n (omega arith) in
    let next : (attempt + 1) * p.n ≡ attempt * p.n + p.n = omega arith in
    let few : first p bucket + size p bucket ≤ p.n = omega arith in
    let count : from + size p bucket - from ≡ size p bucket = omega arith in
    let fits : size p bucket ≤ length (drop from targets) = omega (arith, length-drop from targets, stored.each) in
    ap (λ (n : ℕ). length (take n (drop from targets))) count ∙ length-take-le (size p bucket) (drop from targets) fits

pub targets_below : (p : Sizes) (targets : List ℕ) → IsStored p targets → (attempt bucket : ℕ)
    → All (λ target. target < p.b) (targets_at p targets attempt bucket)
targets_below p targets stored attempt bucket =
    let from = attempt * p.n + first p bucket in
    All-take (λ target. target < p.b) (from + size p bucket - from) (drop from targets) (All-drop (λ target. target < p.b) from targets stored.below_each)

pub stays : (xs : List ℕ) → IsPermutation xs xs
stays xs = IsPermutation-refl xs
