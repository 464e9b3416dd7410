use Rattle.esa_ending.proofs.CutLaws.{good-of-take, none-scanned, scanned, traces-suffice}
use Rattle.esa_ending.proofs.stored.stored_turns_suffice.Goals as goal

pub returns-clause-good : goal.returns-clause-good
returns-clause-good c = good-of-take

pub returns-clause-scanned : goal.returns-clause-scanned
returns-clause-scanned c = scanned

pub returns-clause-trace : goal.returns-clause-trace
returns-clause-trace c = traces-suffice

pub returns-clause-failed : goal.returns-clause-failed
returns-clause-failed c = none-scanned
