use Rattle.esa_intake.specs.Standing.{IsTaker}
use Rattle.esa_intake.proofs.tests.receive.Given as goal

abbrev pub invariant-loop : goal.invariant-loop
invariant-loop g l = IsTaker l.intake l.taker
