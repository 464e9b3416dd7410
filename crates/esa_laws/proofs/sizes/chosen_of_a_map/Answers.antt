use Rattle.esa_laws.proofs.MapLaws.{chosen-map}
use Rattle.esa_laws.proofs.sizes.chosen_of_a_map.Goals as goal

pub returns : goal.returns
returns g c = λ f. chosen-map f
