use Rattle.esa_page.proofs.UnderwayLaws.{HasCause-underway}
use Rattle.esa_page.proofs.PartLaws.{part-added, part-left}
use Rattle.esa_page.proofs.parts.add_part.Goals as goal

pub returns-clause-added : goal.returns-clause-added
returns-clause-added g c = λ before text under.
    part-added before c.args.name.now text c.args.bytes.now (g.K.Cabinet.told c.args.cabinet.now) (g.K.Cabinet.told c.append.new.self) c.append.result under c.append.ensures.added c.append.ensures.silent

pub returns-clause-failed : goal.returns-clause-failed
returns-clause-failed g c = λ before text under.
    part-left before c.args.name.now text c.args.bytes.now (g.K.Cabinet.told c.args.cabinet.now) (g.K.Cabinet.told c.append.new.self) c.append.result under c.append.ensures.failed c.append.ensures.silent

pub returns-clause-cause : goal.returns-clause-cause
returns-clause-cause g c = λ before text under.
    HasCause-underway before c.args.name.now text _ (g.K.Cabinet.told c.args.cabinet.now) (g.K.Cabinet.faults c.args.cabinet.now) (g.K.Cabinet.faults c.append.new.self) c.append.result under c.append.ensures.cause
