use Rattle.esa_running.proofs.Replayed.{never-failed, never-good, same-overflow, same-success}
use Rattle.esa_running.proofs.handed_in.crews_are_replayed.Goals as goal

pub returns-clause-success : goal.returns-clause-success
returns-clause-success c = λ asked again seen other a e crew none sizes draws turns. same-success asked again seen other crew none sizes draws turns a e

pub returns-clause-overflow : goal.returns-clause-overflow
returns-clause-overflow c = λ asked again seen other failures others crew none sizes draws turns. same-overflow asked again seen other crew none sizes draws turns failures others

pub returns-clause-not_failed : goal.returns-clause-not_failed
returns-clause-not_failed c = λ asked again seen other a failures crew none sizes draws turns. never-failed asked again seen other crew none sizes draws turns a failures

pub returns-clause-not_good : goal.returns-clause-not_good
returns-clause-not_good c = λ asked again seen other e failures crew none sizes draws turns. never-good asked again seen other crew none sizes draws turns e failures
