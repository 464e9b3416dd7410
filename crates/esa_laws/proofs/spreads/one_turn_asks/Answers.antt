use Rattle.esa_laws.proofs.SpreadLaws.{spread-push, spread-stays}
use Rattle.esa_laws.proofs.spreads.one_turn_asks.Goals as goal

pub returns-clause-runs : goal.returns-clause-runs
returns-clause-runs c = spread-push

pub returns-clause-failed : goal.returns-clause-failed
returns-clause-failed c = spread-stays
