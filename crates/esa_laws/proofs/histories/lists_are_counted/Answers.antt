use Rattle.esa_laws.proofs.HistoryLaws.{length-lists}
use Rattle.esa_laws.proofs.histories.lists_are_counted.Goals as goal

pub returns : goal.returns
returns c = length-lists
