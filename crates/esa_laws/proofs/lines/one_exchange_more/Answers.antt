use Rattle.esa_laws.proofs.LineLaws.{backlog-push, chunk-push, failing-push, queued-push}
use Rattle.esa_laws.proofs.lines.one_exchange_more.Goals as goal

pub returns-clause-backlog : goal.returns-clause-backlog
returns-clause-backlog c = backlog-push

pub returns-clause-chunk : goal.returns-clause-chunk
returns-clause-chunk c = chunk-push

pub returns-clause-queued : goal.returns-clause-queued
returns-clause-queued c = queued-push

pub returns-clause-failing : goal.returns-clause-failing
returns-clause-failing c = failing-push
