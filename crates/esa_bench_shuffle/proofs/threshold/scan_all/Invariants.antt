use Rattle.std.proofs.Common.{◌≡◌, Some}
use Rattle.esa_bench_shuffle.proofs.threshold.scan_all.Given as goal

-- the recorder stays ready, and the tables are for the plan
abbrev pub invariant-loop-round : goal.invariant-loop-round
invariant-loop-round g l = record {
  ready : l.recorder.plan ≡ Some l.plan;
  tables : l.tables.plan ≡ l.plan;
}
