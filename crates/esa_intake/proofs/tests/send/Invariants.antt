use Rattle.esa_intake.specs.Standing.{IsSender}
use Rattle.esa_intake.proofs.tests.send.Given as goal

abbrev pub invariant-loop : goal.invariant-loop
invariant-loop g l = IsSender l.intake l.sender
