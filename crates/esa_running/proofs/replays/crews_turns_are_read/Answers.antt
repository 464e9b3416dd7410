use Rattle.esa_running.proofs.TurnsRead.{file-is-read, turns-are-asked}
use Rattle.esa_running.proofs.replays.crews_turns_are_read.Goals as goal

pub returns-clause-file : goal.returns-clause-file
returns-clause-file g c = λ purpose run command job read name may numbers named there. file-is-read run may command job read name numbers named there

pub returns-clause-asked : goal.returns-clause-asked
returns-clause-asked g c = λ purpose run command crews of read name again may is numbers named there. turns-are-asked run may command crews of read name again is numbers named there
