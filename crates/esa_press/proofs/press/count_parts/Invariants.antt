-- The chunks of the buckets before this one are counted.
use Rattle.std.proofs.Common.{◌≡◌, map, take}
use Rattle.esa_floor.specs.Parts.{count_at}
use Rattle.esa_params.specs.Sizes.{below}
use Rattle.esa_press.proofs.press.count_parts.Given as goal

abbrev pub invariant-loop-bucket : goal.invariant-loop-bucket
invariant-loop-bucket g l = take l.bucket l.counts ≡ map (λ j. count_at l.plan.b l.floor.counts j l.target) (below l.bucket)
