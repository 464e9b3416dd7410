use Rattle.std.proofs.Common.{◌≡◌, ◌<◌, All, length, map, take}
use Rattle.esa_stash.specs.Sizes.{below}
use Rattle.esa_stash.specs.Dealing.{arrivals}
use Rattle.esa_stash.proofs.totals.count_targets.Given as goal

abbrev pub invariant-loop-target : goal.invariant-loop-target
invariant-loop-target l = record {
  below_all : All (λ target. target < length l.fn.counts) l.targets;
  counted : l.counts ≡ map (arrivals (take l.target-index l.targets)) (below (length l.fn.counts));
}
