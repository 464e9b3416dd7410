use Rattle.esa_laws.proofs.WalkLaws.{steps_verdict-append, walk-append}
use Rattle.esa_laws.proofs.attempts.steps_follow.Goals as goal

pub returns-clause-verdict : goal.returns-clause-verdict
returns-clause-verdict c = steps_verdict-append

pub returns-clause-accesses : goal.returns-clause-accesses
returns-clause-accesses c = walk-append
