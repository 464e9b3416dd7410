use Rattle.esa_laws.proofs.TurnLaws.{event_at-append}
use Rattle.esa_laws.proofs.turns.events_stay.Goals as goal

pub returns : goal.returns
returns c = event_at-append
