use Rattle.esa_laws.proofs.DoneLaws.{done-written}
use Rattle.esa_laws.proofs.FinishLaws.{done-at-last, everybody-done}
use Rattle.esa_laws.proofs.rounds.workers_are_done.Goals as goal

pub returns-clause-done : goal.returns-clause-done
returns-clause-done c = done-at-last

pub returns-clause-written : goal.returns-clause-written
returns-clause-written c = everybody-done

pub returns-clause-turns : goal.returns-clause-turns
returns-clause-turns c = done-written
