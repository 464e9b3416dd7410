use Rattle.esa_floor.proofs.Failing.{failed_last, moved_latest}
use Rattle.esa_floor.proofs.slots.latest_writes_moved_their_bytes.Goals as goal

pub returns-clause-each : goal.returns-clause-each
returns-clause-each c = λ p number entry log. moved_latest p number entry log

pub returns-clause-failed : goal.returns-clause-failed
returns-clause-failed c = λ p number access log. failed_last p number access log
