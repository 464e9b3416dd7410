-- The recorder is still ready for its plan.
use Rattle.std.proofs.Common.{◌≡◌}
use Rattle.esa_attempts.proofs.seen.add_outputs.Given as goal

abbrev pub invariant-loop-bucket : goal.invariant-loop-bucket
invariant-loop-bucket g l = record { ready : l.recorder.plan ≡ l.initial.recorder.plan }
