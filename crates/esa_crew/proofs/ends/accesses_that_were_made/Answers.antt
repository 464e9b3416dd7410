use Rattle.esa_crew.proofs.Finishing.{makes_more}
use Rattle.esa_crew.proofs.ends.accesses_that_were_made.Goals as goal

pub returns : goal.returns
returns g c = λ p ds f new a made more has same ready left longer. makes_more p ds f new a made more has same ready left longer
