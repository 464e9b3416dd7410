use Rattle.esa_intake.proofs.Rules.{begins}
use Rattle.esa_intake.proofs.intake.Intake.make.Goals as goal

pub ruled-requires-clause-rule : goal.ruled-requires-clause-rule
ruled-requires-clause-rule c = begins
