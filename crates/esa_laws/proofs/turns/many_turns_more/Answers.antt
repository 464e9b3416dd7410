use Rattle.esa_laws.proofs.GrownLaws.{chunk-kept, events-begin, exchange-kept, held-kept, order-begins, phase-kept}
use Rattle.esa_laws.proofs.turns.many_turns_more.Goals as goal

pub returns-clause-events : goal.returns-clause-events
returns-clause-events c = events-begin

pub returns-clause-order : goal.returns-clause-order
returns-clause-order c = order-begins

pub returns-clause-exchange : goal.returns-clause-exchange
returns-clause-exchange c = exchange-kept

pub returns-clause-chunk : goal.returns-clause-chunk
returns-clause-chunk c = chunk-kept

pub returns-clause-phase : goal.returns-clause-phase
returns-clause-phase c = phase-kept

pub returns-clause-held : goal.returns-clause-held
returns-clause-held c = held-kept
