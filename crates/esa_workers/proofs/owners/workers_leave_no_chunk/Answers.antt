use Rattle.esa_workers.proofs.Owning.{all_written}
use Rattle.esa_workers.proofs.owners.workers_leave_no_chunk.Goals as goal

pub returns : goal.returns
returns g c = λ p ds f stands some workers named each runs. all_written g.V.Device.faults p ds f stands some runs workers named each
