use Rattle.esa_press.proofs.Finishing.{turns_are, turns_behind}
use Rattle.esa_press.proofs.ends.distributed_floors_have_their_turns.Goals as goal

pub returns-clause-before : goal.returns-clause-before
returns-clause-before g c = λ p ds f a ready. turns_are g.V.Device.faults p ds f a ready

pub returns-clause-after : goal.returns-clause-after
returns-clause-after g c = λ p ds f new a result ready. turns_behind g.V.Device.faults p ds f a ready new result
