use Rattle.esa_laws.proofs.FinishLaws.{completed-added, completed-turn, full-next, length-completed}
use Rattle.esa_laws.proofs.completions.completion_is_found.Goals as goal

pub returns-clause-full : goal.returns-clause-full
returns-clause-full c = full-next

pub returns-clause-handed_in : goal.returns-clause-handed_in
returns-clause-handed_in c = completed-turn

pub returns-clause-added : goal.returns-clause-added
returns-clause-added c = completed-added

pub returns-clause-count : goal.returns-clause-count
returns-clause-count c = length-completed
