use Rattle.esa_vault.proofs.NotedLaws.{all-took_but, all-took_put}
use Rattle.esa_vault.proofs.laws.one_put_noted.Goals as goal

pub returns-clause-stored : goal.returns-clause-stored
returns-clause-stored c = all-took_put

pub returns-clause-failed : goal.returns-clause-failed
returns-clause-failed c = all-took_but
