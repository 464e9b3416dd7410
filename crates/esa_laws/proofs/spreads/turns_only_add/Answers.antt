use Rattle.esa_laws.proofs.AfterLaws.{spread-begins}
use Rattle.esa_laws.proofs.spreads.turns_only_add.Goals as goal

pub returns : goal.returns
returns c = spread-begins
