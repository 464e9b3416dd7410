use Rattle.std.proofs.Common.{◌≡◌, map}
use Rattle.esa_params.specs.Sizes.{below}
use Rattle.esa_spec.specs.Traces.{written_input}
use Rattle.esa_model.specs.Recorded.{with_accesses}
use Rattle.esa_model.proofs.forecast.write_input.Given as goal

abbrev pub invariant-loop-bucket : goal.invariant-loop-bucket
invariant-loop-bucket l = l.trace ≡ with_accesses l.initial.trace (map (written_input l.plan) (below l.bucket))
