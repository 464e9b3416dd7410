-- The block of the worker's bucket was read.
use Rattle.std.proofs.Common.{◌≢◌, ℕ, Option, None, sym, ap, ◌∙◌, arith, subst}
use Rattle.esa_device.specs.Recording.{Recorded}
use Rattle.esa_envelope.specs.declared.keys.Keys.{Keys}
use Rattle.esa_params.specs.Sizes.{Sizes}
use Rattle.esa_params.specs.Slots.{at, number_of}
use Rattle.esa_params.specs.declared.slot.Region.TheVariants.{Input}
use Rattle.esa_spec.specs.Turns.{next_phase}
use Rattle.esa_spec.specs.declared.event.Event.{Event}
use Rattle.esa_spec.specs.declared.event.Event.TheVariants.{Read}
use Rattle.esa_vault.specs.Seals.{opens}
use Rattle.esa_floor.specs.Acts.{StopsReading, answer_of}
use Rattle.esa_floor.specs.Keeping.{OpensTo}
use Rattle.esa_floor.specs.Parts.{Parts}
use Rattle.esa_floor.specs.Standing.{attempt_begun, turns_made}
use Rattle.esa_floor.specs.Working.{attempt_in}
use Rattle.esa_floor.proofs.Acting.{next_reads}
use Rattle.esa_floor.proofs.Making.{answered_is, read_here}
use Rattle.esa_floor.proofs.floor.Floor.read.Goals as goal

pub returns-clause-stands : goal.returns-clause-stands
returns-clause-stands g c =
    let f = c.args.self.now in
    let w = c.args.worker.now in
    let later : next_phase f.plan.b (turns_made f) w.number ≢ 0 = λ none. let one = c.requires.phase in absurd (omega (arith, none, one)) in
    read_here g.V.Device.faults g.G.Told.draws f (attempt_begun f) w.number c.requires.at_work c.requires.number c.requires.runs _
    (ap (λ (f : Parts _). record f { recorder = c.read-self-inside.new.recorder; stop = c.read-self-inside.result }) c.self.view_is)
    w.bucket (next_reads f.plan.b (turns_made f) w.number w.bucket c.requires.held c.requires.bucket c.requires.phase) later
    w.buffers.plan w.attempt w.run c.self.inside.recorder c.requires.plan c.requires.attempt c.requires.run (ap (λ (f : Parts _). f.recorder) c.self.view_is)
    c.read-self-inside.ensures.trace c.read-self-inside.ensures.stops

pub returns-clause-answer : goal.returns-clause-answer
returns-clause-answer g c =
    let f = c.args.self.now in
    let w = c.args.worker.now in
    c.answer.ensures
    ∙ answered_is _ _ c.read-self-inside.result
    (ap (λ (e : Event). answer_of e None) (next_reads f.plan.b (turns_made f) w.number w.bucket c.requires.held c.requires.bucket c.requires.phase)
    ∙ ap (λ (j : ℕ). answer_of (Read j) None) (sym c.bucket-bucket.ensures))

pub returns-clause-opened : goal.returns-clause-opened
returns-clause-opened g c = λ runs.
    let f = c.args.self.now in
    let w = c.args.worker.now in
    let text = c.read-self-inside.new.worker.buffers.text in
    let new = c.read-self-inside.new.recorder in
    subst (λ (p : Sizes). OpensTo p f.run (attempt_begun f) w.bucket text f.recorder new) c.requires.plan
    (subst (λ (k : Keys). OpensTo w.buffers.plan k (attempt_begun f) w.bucket text f.recorder new) c.requires.run
    (subst (λ (o : Option ℕ). OpensTo w.buffers.plan w.run (attempt_in o) w.bucket text f.recorder new) c.requires.attempt
    (subst (λ (r : Recorded _). OpensTo w.buffers.plan w.run (attempt_in w.attempt) w.bucket text r new) (ap (λ (x : Parts _). x.recorder) c.self.view_is)
    (c.read-self-inside.ensures.opened runs))))

pub returns-clause-reads : goal.returns-clause-reads
returns-clause-reads g c =
    let f = c.args.self.now in
    let w = c.args.worker.now in
    let new = c.read-self-inside.new.recorder in
    let faults = g.V.Device.faults in
    let s = c.read-self-inside.result in
    subst (λ (p : Sizes). StopsReading (number_of p (at Input w.bucket)) (opens p f.run (at Input w.bucket) (attempt_begun f) 0 new.last) (faults f.recorder.device) (faults new.device) s) c.requires.plan
    (subst (λ (k : Keys). StopsReading (number_of w.buffers.plan (at Input w.bucket)) (opens w.buffers.plan k (at Input w.bucket) (attempt_begun f) 0 new.last) (faults f.recorder.device) (faults new.device) s) c.requires.run
    (subst (λ (o : Option ℕ). StopsReading (number_of w.buffers.plan (at Input w.bucket)) (opens w.buffers.plan w.run (at Input w.bucket) (attempt_in o) 0 new.last) (faults f.recorder.device) (faults new.device) s) c.requires.attempt
    (subst (λ (r : Recorded _). StopsReading (number_of w.buffers.plan (at Input w.bucket)) (opens w.buffers.plan w.run (at Input w.bucket) (attempt_in w.attempt) 0 new.last) (faults r.device) (faults new.device) s)
    (ap (λ (x : Parts _). x.recorder) c.self.view_is) c.read-self-inside.ensures.stops)))
