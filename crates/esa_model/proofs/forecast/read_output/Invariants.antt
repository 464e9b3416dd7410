use Rattle.std.proofs.Common.{◌≡◌, map}
use Rattle.esa_params.specs.Sizes.{below}
use Rattle.esa_spec.specs.Traces.{read_output}
use Rattle.esa_model.specs.Recorded.{with_accesses}
use Rattle.esa_model.proofs.forecast.read_output.Given as goal

abbrev pub invariant-loop-bucket : goal.invariant-loop-bucket
invariant-loop-bucket l = l.trace ≡ with_accesses l.initial.trace (map (read_output l.plan l.attempt) (below l.bucket))
