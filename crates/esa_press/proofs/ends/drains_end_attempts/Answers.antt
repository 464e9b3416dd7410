use Rattle.esa_press.proofs.Finishing.{drain_cut, drain_fails}
use Rattle.esa_press.proofs.ends.drains_end_attempts.Goals as goal

pub returns-clause-left : goal.returns-clause-left
returns-clause-left g c = λ p ds f new a v ready. drain_fails g.V.Device.faults p ds f a ready new v

pub returns-clause-cut : goal.returns-clause-cut
returns-clause-cut g c = λ p ds f new a fault ready. drain_cut g.V.Device.faults p ds f a ready new fault
