use Rattle.esa_crew.proofs.Ending.{each_left, each_stored}
use Rattle.esa_crew.proofs.ends.written_chunks_are_stored.Goals as goal

pub returns-clause-slots : goal.returns-clause-slots
returns-clause-slots g c = λ p ds f record_of stands some runs all slots input. each_stored g.V.Device.faults p ds f stands some runs all record_of input slots

pub returns-clause-queues : goal.returns-clause-queues
returns-clause-queues g c = λ p ds f record_of stands some runs all queues input. each_left g.V.Device.faults p ds f stands some runs all record_of input queues
