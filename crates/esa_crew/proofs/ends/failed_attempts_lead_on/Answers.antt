use Rattle.esa_crew.proofs.Finishing.{begins_again}
use Rattle.esa_crew.proofs.ends.failed_attempts_lead_on.Goals as goal

pub returns : goal.returns
returns g c = λ p ds f a over goes_on failed more. begins_again g.V.Device.faults p ds f a over failed goes_on more
