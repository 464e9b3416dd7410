use Rattle.esa_vault.proofs.LatestLaws.{holds-read, latest-read, told-read}
use Rattle.esa_vault.proofs.laws.one_read_more.Goals as goal

pub returns-clause-latest : goal.returns-clause-latest
returns-clause-latest c = latest-read

pub returns-clause-holds : goal.returns-clause-holds
returns-clause-holds c = holds-read

pub returns-clause-told : goal.returns-clause-told
returns-clause-told c = told-read
