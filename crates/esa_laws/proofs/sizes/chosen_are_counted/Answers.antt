use Rattle.esa_laws.proofs.PlaceLaws.{length-chosen}
use Rattle.esa_laws.proofs.sizes.chosen_are_counted.Goals as goal

pub returns : goal.returns
returns g c = length-chosen
