use Rattle.std.proofs.Common.{◌≡◌, ◌-◌, ◌≤◌, ◌++◌, Some, length, drop}
use Rattle.std.specs.FinMap as finite
use Rattle.esa_recovery.specs.Recovered.{summed}
use Rattle.esa_recovery.specs.Sums.{plain}
use Rattle.esa_recovery.proofs.sums.merged.Given as goal

-- with what is left they are all
abbrev pub invariant-loop-start : goal.invariant-loop-start
invariant-loop-start l = record {
  inside : l.start ≤ length l.sums.items;
  all : plain l.merged.items ++ finite.entries (summed Some (plain (drop l.start l.sums.items))) ≡ finite.entries (summed Some (plain l.sums.items));
}

abbrev pub decreases-loop-start : goal.decreases-loop-start
decreases-loop-start l = length l.sums.items - l.start
