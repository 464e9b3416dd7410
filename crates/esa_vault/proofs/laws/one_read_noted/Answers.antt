use Rattle.esa_vault.proofs.NotedLaws.{all-took_read, took-latest_read, took-nothing}
use Rattle.esa_vault.proofs.laws.one_read_noted.Goals as goal

pub returns-clause-nothing : goal.returns-clause-nothing
returns-clause-nothing c = took-nothing

pub returns-clause-took : goal.returns-clause-took
returns-clause-took c = took-latest_read

pub returns-clause-all : goal.returns-clause-all
returns-clause-all c = all-took_read
