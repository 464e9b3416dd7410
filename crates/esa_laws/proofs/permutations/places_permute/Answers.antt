use Rattle.esa_laws.proofs.PlaceLaws.{places-permute}
use Rattle.esa_laws.proofs.permutations.places_permute.Goals as goal

pub returns : goal.returns
returns c = places-permute
