use Rattle.esa_laws.proofs.TurnLaws.{turns_of-push, events-push, order-push, writes-push, claims-push}
use Rattle.esa_laws.proofs.turns.one_turn_more.Goals as goal

pub returns-clause-turns : goal.returns-clause-turns
returns-clause-turns c = λ v w h. turns_of-push v h w

pub returns-clause-events : goal.returns-clause-events
returns-clause-events c = events-push

pub returns-clause-order : goal.returns-clause-order
returns-clause-order c = order-push

pub returns-clause-writes : goal.returns-clause-writes
returns-clause-writes c = writes-push

pub returns-clause-claims : goal.returns-clause-claims
returns-clause-claims c = claims-push
