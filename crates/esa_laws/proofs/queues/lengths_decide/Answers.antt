use Rattle.esa_laws.proofs.MapLaws.{waiting-same, departed-same}
use Rattle.esa_laws.proofs.queues.lengths_decide.Goals as goal

pub returns-clause-waiting : goal.returns-clause-waiting
returns-clause-waiting g c = waiting-same

pub returns-clause-departed : goal.returns-clause-departed
returns-clause-departed g c = departed-same
