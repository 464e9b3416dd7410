use Rattle.esa_vault.proofs.NotedLaws.{took-holds, took-seal}
use Rattle.esa_vault.proofs.laws.latest_seal.Goals as goal

pub returns-clause-took : goal.returns-clause-took
returns-clause-took c = took-seal

pub returns-clause-holds : goal.returns-clause-holds
returns-clause-holds c = took-holds
