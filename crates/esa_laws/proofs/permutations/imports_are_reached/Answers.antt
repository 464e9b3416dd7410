use Rattle.esa_laws.proofs.PlaceLaws.{arranged-permutes, length-imported, reached-arranged}
use Rattle.esa_laws.proofs.permutations.imports_are_reached.Goals as goal

pub returns-clause-permutes : goal.returns-clause-permutes
returns-clause-permutes c = arranged-permutes

pub returns-clause-one : goal.returns-clause-one
returns-clause-one c = reached-arranged

pub returns-clause-all : goal.returns-clause-all
returns-clause-all c = length-imported
