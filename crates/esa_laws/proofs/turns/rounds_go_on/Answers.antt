use Rattle.esa_laws.proofs.TurnLaws.{next-is, held-at_claim, held-own, held-other}
use Rattle.esa_laws.proofs.turns.rounds_go_on.Goals as goal

pub returns-clause-next : goal.returns-clause-next
returns-clause-next c = next-is

pub returns-clause-claimed : goal.returns-clause-claimed
returns-clause-claimed c = held-at_claim

pub returns-clause-own : goal.returns-clause-own
returns-clause-own c = held-own

pub returns-clause-others : goal.returns-clause-others
returns-clause-others c = held-other
