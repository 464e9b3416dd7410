use Rattle.esa_crew.proofs.Finishing.{all_made, has_failed, is_over}
use Rattle.esa_crew.proofs.ends.turns_that_were_made.Goals as goal

pub returns-clause-running : goal.returns-clause-running
returns-clause-running g c = λ p ds f stands some room runs. all_made g.V.Device.faults p ds f stands some room runs

pub returns-clause-overflow : goal.returns-clause-overflow
returns-clause-overflow g c = λ p ds f j stands some room stopped.
    (is_over g.V.Device.faults p ds f stands some room j stopped, has_failed g.V.Device.faults p ds f stands some room j stopped)
