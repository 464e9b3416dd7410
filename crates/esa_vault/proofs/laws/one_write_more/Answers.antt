use Rattle.esa_vault.proofs.LatestLaws.{holds-other, holds-write, latest-push}
use Rattle.esa_vault.proofs.laws.one_write_more.Goals as goal

pub returns-clause-latest : goal.returns-clause-latest
returns-clause-latest c = λ p number accesses access writes. latest-push p number accesses access

pub returns-clause-holds : goal.returns-clause-holds
returns-clause-holds c = holds-write

pub returns-clause-others : goal.returns-clause-others
returns-clause-others c = holds-other
