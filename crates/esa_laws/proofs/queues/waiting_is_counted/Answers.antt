use Rattle.esa_laws.proofs.QueueLaws.{length-queue}
use Rattle.esa_laws.proofs.queues.waiting_is_counted.Goals as goal

pub returns : goal.returns
returns g c = λ least es k h. length-queue least es k
