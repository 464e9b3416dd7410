use Rattle.esa_laws.proofs.FailLaws.{fails, failing-on}
use Rattle.esa_laws.proofs.spreads.failing_turn.Goals as goal

pub returns-clause-turn : goal.returns-clause-turn
returns-clause-turn c = λ p d h k e. let s = fails p d h k e in (s.turn, s.turn_in, s.before, s.after, s.exchanges_now, s.number, s.events_made)

pub returns-clause-stays : goal.returns-clause-stays
returns-clause-stays c = failing-on
