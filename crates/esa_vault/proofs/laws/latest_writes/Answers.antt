use Rattle.esa_vault.proofs.WriteLaws.{latest-append, latest-names, latest-stands, latest-writes}
use Rattle.esa_vault.proofs.laws.latest_writes.Goals as goal

pub returns-clause-stands : goal.returns-clause-stands
returns-clause-stands c = latest-stands

pub returns-clause-writes : goal.returns-clause-writes
returns-clause-writes c = latest-writes

pub returns-clause-names : goal.returns-clause-names
returns-clause-names c = latest-names

pub returns-clause-longer : goal.returns-clause-longer
returns-clause-longer c = latest-append
