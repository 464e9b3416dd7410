-- The floor is still of its plan.
use Rattle.std.proofs.Common.{◌≡◌}
use Rattle.esa_attempts.proofs.floors.add_queues.Given as goal

abbrev pub invariant-loop-target : goal.invariant-loop-target
invariant-loop-target g l = record { plan : l.floor.plan ≡ l.initial.floor.plan }
