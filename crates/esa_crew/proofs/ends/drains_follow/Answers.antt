use Rattle.esa_crew.proofs.Ending.{all_written, good}
use Rattle.esa_crew.proofs.Finishing.{drain_follows}
use Rattle.esa_crew.proofs.ends.drains_follow.Goals as goal

pub returns-clause-finished : goal.returns-clause-finished
returns-clause-finished g c = λ p ds f stands some runs all. all_written g.V.Device.faults p ds f stands some runs all

pub returns-clause-good : goal.returns-clause-good
returns-clause-good g c = λ p ds f stands some runs. good g.V.Device.faults p ds f stands some runs

pub returns-clause-accesses : goal.returns-clause-accesses
returns-clause-accesses g c = drain_follows
