use Rattle.esa_laws.proofs.FileLaws.{length-turn, turns-push}
use Rattle.esa_laws.proofs.files.turns_in_parts.Goals as goal

pub returns-clause-list : goal.returns-clause-list
returns-clause-list c = turns-push

pub returns-clause-line : goal.returns-clause-line
returns-clause-line c = length-turn
