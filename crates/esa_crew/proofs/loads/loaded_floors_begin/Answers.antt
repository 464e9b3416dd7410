use Rattle.esa_crew.proofs.Loading.{first_begins}
use Rattle.esa_crew.proofs.loads.loaded_floors_begin.Goals as goal

pub returns : goal.returns
returns g c = λ p ds f loaded. first_begins g.V.Device.faults p ds f loaded
