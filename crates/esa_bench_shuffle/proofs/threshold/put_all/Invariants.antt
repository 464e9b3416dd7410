use Rattle.std.proofs.Common.{◌≡◌, Some}
use Rattle.esa_bench_shuffle.proofs.threshold.put_all.Given as goal

-- the recorder stays ready
abbrev pub invariant-loop-bucket : goal.invariant-loop-bucket
invariant-loop-bucket g l = l.recorder.plan ≡ Some l.plan
