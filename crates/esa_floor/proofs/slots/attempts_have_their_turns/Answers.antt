use Rattle.esa_floor.proofs.Lasting.{turns-made, turns-stored}
use Rattle.esa_floor.proofs.slots.attempts_have_their_turns.Goals as goal

pub returns-clause-stored : goal.returns-clause-stored
returns-clause-stored g c = λ f a. turns-stored f a

pub returns-clause-latest : goal.returns-clause-latest
returns-clause-latest g c = λ f. turns-made f
