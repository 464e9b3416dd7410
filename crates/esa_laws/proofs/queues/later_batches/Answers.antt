use Rattle.esa_laws.proofs.QueueLaws.{waiting-append, leaving-append, queue-append}
use Rattle.esa_laws.proofs.queues.later_batches.Goals as goal

pub returns-clause-waiting : goal.returns-clause-waiting
returns-clause-waiting g c = waiting-append

pub returns-clause-leaving : goal.returns-clause-leaving
returns-clause-leaving g c = leaving-append

pub returns-clause-queue : goal.returns-clause-queue
returns-clause-queue g c = queue-append
