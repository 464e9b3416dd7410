use Rattle.esa_press.proofs.Finishing.{chunks_are, queues_are}
use Rattle.esa_press.proofs.ends.distributed_floors_hold.Goals as goal

pub returns-clause-queues : goal.returns-clause-queues
returns-clause-queues g c = λ p ds f a record_of ready input holds. queues_are g.V.Device.faults p ds f a ready record_of input holds

pub returns-clause-chunks : goal.returns-clause-chunks
returns-clause-chunks g c = λ p ds f a record_of ready input holds. chunks_are g.V.Device.faults p ds f a ready record_of input holds
