use Rattle.esa_press.proofs.Finishing.{press_bad, press_cut, press_good}
use Rattle.esa_press.proofs.ends.compressions_end_attempts.Goals as goal

pub returns-clause-good : goal.returns-clause-good
returns-clause-good g c = λ p ds f drained new a done again ready end made plan total. press_good g.V.Device.faults p ds f a ready drained new done again end made (plan, total)

pub returns-clause-bad : goal.returns-clause-bad
returns-clause-bad g c = λ p ds f drained new a done v ready end made plan total. press_bad g.V.Device.faults p ds f a ready drained new done v end made (plan, total)

pub returns-clause-cut : goal.returns-clause-cut
returns-clause-cut g c = λ p ds f drained new a done fault ready end made plan total. press_cut g.V.Device.faults p ds f a ready drained new done fault end made (plan, total)
