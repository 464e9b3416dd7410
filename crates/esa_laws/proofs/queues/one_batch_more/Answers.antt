use Rattle.esa_laws.proofs.QueueLaws.{waiting-push, leaving-push, queue-push}
use Rattle.esa_laws.proofs.queues.one_batch_more.Goals as goal

pub returns-clause-waiting : goal.returns-clause-waiting
returns-clause-waiting g c = waiting-push

pub returns-clause-leaving : goal.returns-clause-leaving
returns-clause-leaving g c = leaving-push

pub returns-clause-queue : goal.returns-clause-queue
returns-clause-queue g c = queue-push
