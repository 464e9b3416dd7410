use Rattle.esa_laws.proofs.WalkLaws.{all_failed-push, attempts-push, good_attempt-push}
use Rattle.esa_laws.proofs.attempts.one_attempt_more.Goals as goal

pub returns-clause-trace : goal.returns-clause-trace
returns-clause-trace c = attempts-push

pub returns-clause-failed : goal.returns-clause-failed
returns-clause-failed c = all_failed-push

pub returns-clause-good : goal.returns-clause-good
returns-clause-good c = good_attempt-push
