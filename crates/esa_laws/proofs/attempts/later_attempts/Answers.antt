use Rattle.esa_laws.proofs.LaterLaws.{attempts-stop, good-ends, good_attempt-stops, trace-stops}
use Rattle.esa_laws.proofs.attempts.later_attempts.Goals as goal

pub returns-clause-attempts : goal.returns-clause-attempts
returns-clause-attempts c = attempts-stop

pub returns-clause-good : goal.returns-clause-good
returns-clause-good c = good_attempt-stops

pub returns-clause-trace : goal.returns-clause-trace
returns-clause-trace c = trace-stops

pub returns-clause-success : goal.returns-clause-success
returns-clause-success c = good-ends
