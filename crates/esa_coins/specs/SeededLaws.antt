-- The laws of coins, for those that are drawn from a seed.
use Rattle.std.proofs.Common.{◌≡◌, ℕ, ◌+◌, ◌-◌, ◌*◌, ◌^◌, ◌<◌, ◌≤◌, List, length, All, arith}
use Rattle.std.specs.List.Sorted.{IsPermutation}
use Rattle.std.proofs.lemmas.List.FromFn.{length-range_with_len}
use Rattle.std.proofs.lemmas.Nat.{mul-le}
use Rattle.rand_core.specs.Stream.{Stream}
use Rattle.esa_params.specs.Sizes.{Sizes, ArePlanned, size, below}
use Rattle.esa_params.specs.declared.draw.Draw.{Draw}
use Rattle.esa_params.specs.declared.draw.Draw.TheVariants.{Single, Separators}
use Rattle.esa_coins.specs.Seeded.{Seeds, shuffled_below, targets_by, seeded_targets, seeded_order}
use Rattle.esa_coins.specs.Words.{WordsFit, words_fit-stream_at, length-drawn_below, drawn_below-below}
use Rattle.esa_coins.specs.Shuffled.{shuffled-permutes}
use Rattle.esa_coins.specs.Separators.{length-separated, separated-below}

pub shuffled_below-permutes : (n : ℕ) (words : Stream) → WordsFit words → n < 2 ^ 32 - 1 → IsPermutation (below n) (shuffled_below n words)
shuffled_below-permutes n words fit small = shuffled-permutes (below n) words fit (omega (arith, length-range_with_len 0 n))

length-targets_by : (draw : Draw) (seed : List ℕ) (b n attempt bucket : ℕ) → length (targets_by draw seed b n attempt bucket) ≡ n
length-targets_by Single seed b n attempt bucket = length-drawn_below n b _
length-targets_by Separators seed b n attempt bucket = length-separated n _

targets_by-below : (draw : Draw) (seed : List ℕ) (b n attempt bucket : ℕ) → 0 < b → b ≤ 256 → n ≤ 262144 → All (λ target. target < b) (targets_by draw seed b n attempt bucket)
targets_by-below Single seed b n attempt bucket some few small =
    drawn_below-below n b _ (words_fit-stream_at seed _) some (omega arith)
targets_by-below Separators seed b n attempt bucket some few small =
    separated-below n b _ some (shuffled_below-permutes (n + b - 1) _ (words_fit-stream_at seed _) (omega arith))

-- a bucket has no more places than there are records
size-small : (p : Sizes) (bucket : ℕ) → p.n ≤ 262144 → size p bucket ≤ 262144
size-small p bucket small = omega arith

import_small : (b c k : ℕ) → b ≤ 256 → c ≤ 1024 → k ≤ 4096 → b * c + k < 2 ^ 32 - 1
import_small b c k b_fits c_fits k_fits =
    let product : b * c ≤ 256 * 1024 = mul-le b c 256 1024 b_fits c_fits in
    omega arith

pub target_for_each : (coins : Seeds) (attempt bucket : ℕ) → length (seeded_targets coins attempt bucket) ≡ size coins.plan bucket
target_for_each coins attempt bucket = length-targets_by coins.draw coins.seed coins.plan.b (size coins.plan bucket) attempt bucket

pub targets_below : (coins : Seeds) → ArePlanned coins.plan → (attempt bucket : ℕ) → All (λ target. target < coins.plan.b) (seeded_targets coins attempt bucket)
targets_below coins planned attempt bucket =
    let limits = planned.parameters in
    targets_by-below coins.draw coins.seed coins.plan.b (size coins.plan bucket) attempt bucket limits.b_least limits.b_greatest (size-small coins.plan bucket planned.n_greatest)

pub orders_permute : (coins : Seeds) → ArePlanned coins.plan → (attempt target : ℕ) → IsPermutation (below (coins.plan.b * coins.plan.c + coins.plan.k)) (seeded_order coins attempt target)
orders_permute coins planned attempt target =
    let limits = planned.parameters in
    shuffled_below-permutes _ _ (words_fit-stream_at coins.seed _) (import_small coins.plan.b coins.plan.c coins.plan.k limits.b_greatest limits.c_greatest limits.k_greatest)
