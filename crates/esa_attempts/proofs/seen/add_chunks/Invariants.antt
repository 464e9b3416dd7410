-- The recorder is still ready for its plan.
use Rattle.std.proofs.Common.{◌≡◌}
use Rattle.esa_attempts.proofs.seen.add_chunks.Given as goal

abbrev pub invariant-loop-chunk : goal.invariant-loop-chunk
invariant-loop-chunk g l = record { ready : l.recorder.plan ≡ l.initial.recorder.plan }
