use Rattle.esa_laws.proofs.PlaceLaws.{length-parts}
use Rattle.esa_laws.proofs.permutations.parts_are_arranged.Goals as goal

pub returns : goal.returns
returns c = length-parts
