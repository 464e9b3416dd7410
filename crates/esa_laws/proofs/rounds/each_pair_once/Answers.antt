use Rattle.esa_laws.proofs.PairLaws.{each-pair, exchanged-before, pair-le, pair-new}
use Rattle.esa_laws.proofs.rounds.each_pair_once.Goals as goal

pub returns-clause-exchanged : goal.returns-clause-exchanged
returns-clause-exchanged c = exchanged-before

pub returns-clause-fresh : goal.returns-clause-fresh
returns-clause-fresh c = pair-new

pub returns-clause-few : goal.returns-clause-few
returns-clause-few c = pair-le

pub returns-clause-once : goal.returns-clause-once
returns-clause-once c = each-pair
