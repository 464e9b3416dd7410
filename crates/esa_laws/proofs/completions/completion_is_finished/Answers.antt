use Rattle.esa_laws.proofs.FinishLaws.{completed-written, completes, completes-shortest, full-within}
use Rattle.esa_laws.proofs.completions.completion_is_finished.Goals as goal

pub returns-clause-written : goal.returns-clause-written
returns-clause-written c = completed-written

pub returns-clause-finished : goal.returns-clause-finished
returns-clause-finished c = completes

pub returns-clause-shortest : goal.returns-clause-shortest
returns-clause-shortest c = completes-shortest

pub returns-clause-added : goal.returns-clause-added
returns-clause-added c = full-within
