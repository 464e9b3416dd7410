use Rattle.esa_crew.proofs.Finishing.{ends_at_fault, ends_tampered}
use Rattle.esa_crew.proofs.ends.runs_end_with_an_access.Goals as goal

pub returns-clause-fault : goal.returns-clause-fault
returns-clause-fault g c = λ p ds f a made access has begins ends rose. ends_at_fault g.V.Device.faults p ds f a made has access begins ends rose

pub returns-clause-tampered : goal.returns-clause-tampered
returns-clause-tampered g c = λ p ds f a made access has begins ends calm reads here closed.
    ends_tampered g.V.Device.faults p ds f a made has access begins ends calm reads here closed
