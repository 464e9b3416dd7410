use Rattle.esa_workers.proofs.Owning.{all_written, back_has_done}
use Rattle.esa_workers.proofs.owners.crews_leave_no_chunk.Goals as goal

pub returns : goal.returns
returns g c = λ p ds f t entries mark stands some workers named same at_work each runs.
    all_written g.V.Device.faults p ds f stands some runs workers named
    (λ v v_in. back_has_done g.V.Device.faults ds g.C.Coins.target_list p t entries mark f v same at_work (each v v_in))
