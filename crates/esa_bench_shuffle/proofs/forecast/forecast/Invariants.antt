use Rattle.std.proofs.Common.{◌≡◌}
use Rattle.esa_bench_shuffle.proofs.forecast.forecast.Given as goal

abbrev pub invariant-loop-run : goal.invariant-loop-run
invariant-loop-run l = l.predictor ≡ l.initial.predictor
