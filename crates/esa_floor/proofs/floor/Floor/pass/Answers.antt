-- A turn of a round that has no bucket was passed.
use Rattle.std.proofs.Common.{None, sym, ap}
use Rattle.esa_spec.specs.declared.event.Event.{Event}
use Rattle.esa_floor.specs.Acts.{answer_of}
use Rattle.esa_floor.specs.Standing.{attempt_begun, turns_made}
use Rattle.esa_floor.proofs.Acting.{next_is_idle}
use Rattle.esa_floor.proofs.Making.{idle_made}
use Rattle.esa_floor.proofs.floor.Floor.pass.Goals as goal

pub returns-clause-stands : goal.returns-clause-stands
returns-clause-stands g c =
    let f = c.args.self.now in
    idle_made g.V.Device.faults g.G.Told.draws f (attempt_begun f) c.args.worker.now.number c.requires.at_work c.requires.number c.requires.runs c.requires.phase c.requires.held

pub returns-clause-answer : goal.returns-clause-answer
returns-clause-answer g c =
    let f = c.args.self.now in
    sym (ap (λ (e : Event). answer_of e None) (next_is_idle f.plan.b (turns_made f) c.args.worker.now.number c.requires.phase c.requires.held))
