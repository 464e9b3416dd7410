use Rattle.esa_crew.proofs.Finishing.{batch_fails, load_fails}
use Rattle.esa_crew.proofs.ends.runs_end_with_the_load.Goals as goal

pub returns-clause-batch : goal.returns-clause-batch
returns-clause-batch g c = λ p ds f loading calm. batch_fails g.V.Device.faults p ds f loading calm

pub returns-clause-fault : goal.returns-clause-fault
returns-clause-fault g c = λ p ds f access loading ends rose. load_fails g.V.Device.faults p ds f loading access ends rose
