use Rattle.esa_crew.proofs.Finishing.{turn_fault, turn_tampered}
use Rattle.esa_crew.proofs.ends.runs_end_with_a_turn.Goals as goal

pub returns-clause-fault : goal.returns-clause-fault
returns-clause-fault g c = λ p ds f number stands some room stopped. turn_fault g.V.Device.faults p ds f stands some room number stopped

pub returns-clause-tampered : goal.returns-clause-tampered
returns-clause-tampered g c = λ p ds f number stands some room stopped. turn_tampered g.V.Device.faults p ds f stands some room number stopped
