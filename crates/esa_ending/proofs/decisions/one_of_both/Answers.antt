use Rattle.esa_ending.proofs.DecisionLaws.{one-of-both}
use Rattle.esa_ending.proofs.decisions.one_of_both.Goals as goal

pub returns : goal.returns
returns c = one-of-both
