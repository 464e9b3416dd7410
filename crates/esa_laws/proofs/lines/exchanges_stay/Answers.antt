use Rattle.esa_laws.proofs.LineLaws.{backlog-append, chunk-append, overflows-append, queued-append, stashed-append}
use Rattle.esa_laws.proofs.lines.exchanges_stay.Goals as goal

pub returns-clause-chunk : goal.returns-clause-chunk
returns-clause-chunk c = chunk-append

pub returns-clause-backlog : goal.returns-clause-backlog
returns-clause-backlog c = backlog-append

pub returns-clause-queued : goal.returns-clause-queued
returns-clause-queued c = queued-append

pub returns-clause-stashed : goal.returns-clause-stashed
returns-clause-stashed c = stashed-append

pub returns-clause-overflows : goal.returns-clause-overflows
returns-clause-overflows c = overflows-append
