use Rattle.std.proofs.Common.{◌≡◌, take}
use Rattle.std.specs.Prelude.{sum_by}
use Rattle.esa_recovery.proofs.sums.total.Given as goal

abbrev pub invariant-loop-sum : goal.invariant-loop-sum
invariant-loop-sum l = l.total ≡ sum_by (λ sum. sum.count) (take l.sum-index l.sums)
