use Rattle.esa_laws.proofs.OrderLaws.{attempt-targets, finished-targets, full-targets, trace-targets, verdict-targets}
use Rattle.esa_laws.proofs.orders.orders_do_not_count.Goals as goal

pub returns-clause-finished : goal.returns-clause-finished
returns-clause-finished c = finished-targets

pub returns-clause-verdict : goal.returns-clause-verdict
returns-clause-verdict c = verdict-targets

pub returns-clause-completion : goal.returns-clause-completion
returns-clause-completion c = full-targets

pub returns-clause-attempt : goal.returns-clause-attempt
returns-clause-attempt c = λ p d e same a h. attempt-targets p d e same h a

pub returns-clause-trace : goal.returns-clause-trace
returns-clause-trace c = trace-targets
