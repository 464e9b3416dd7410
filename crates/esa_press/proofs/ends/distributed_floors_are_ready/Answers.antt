use Rattle.esa_press.proofs.Finishing.{drawn_is, planned_is, ready_is, room_is, spread_is}
use Rattle.esa_press.proofs.ends.distributed_floors_are_ready.Goals as goal

pub returns-clause-spread : goal.returns-clause-spread
returns-clause-spread g c = λ p ds f a ready. spread_is g.V.Device.faults p ds f a ready

pub returns-clause-drawn : goal.returns-clause-drawn
returns-clause-drawn g c = λ p ds f a ready. drawn_is g.V.Device.faults p ds f a ready

pub returns-clause-planned : goal.returns-clause-planned
returns-clause-planned g c = λ p ds f a ready. planned_is g.V.Device.faults p ds f a ready

pub returns-clause-ready : goal.returns-clause-ready
returns-clause-ready g c = λ p ds f a ready. ready_is g.V.Device.faults p ds f a ready

pub returns-clause-room : goal.returns-clause-room
returns-clause-room g c = λ p ds f a ready. room_is g.V.Device.faults p ds f a ready
