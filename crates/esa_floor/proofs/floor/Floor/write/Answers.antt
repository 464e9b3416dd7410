-- A chunk of the worker's bucket was written.
use Rattle.std.proofs.Common.{◌≡◌, ◌≢◌, ℕ, ◌-◌, ◌*◌, ◌≤◌, None, sym, ap, ◌∙◌, arith, subst}
use Rattle.esa_params.specs.Sizes.{Sizes}
use Rattle.esa_spec.specs.Turns.{next_phase}
use Rattle.esa_spec.specs.declared.event.Event.{Event}
use Rattle.esa_spec.specs.declared.event.Event.TheVariants.{Write}
use Rattle.esa_floor.specs.Acts.{answer_of, one_more}
use Rattle.esa_floor.specs.Parts.{Parts}
use Rattle.esa_floor.specs.Standing.{attempt_begun, turns_made}
use Rattle.esa_floor.proofs.Acting.{next_writes}
use Rattle.esa_floor.proofs.Making.{answered_is, write_here, writes_few}
use Rattle.esa_floor.proofs.floor.Floor.write.Goals as goal

pub returns-clause-stands : goal.returns-clause-stands
returns-clause-stands g c =
    let f = c.args.self.now in
    let w = c.args.worker.now in
    let r = c.write-self-inside.new.recorder in
    let s = c.write-self-inside.result in
    let phase = c.requires.phase in
    let least = c.requires.least in
    let later : next_phase f.plan.b (turns_made f) w.number ≢ 0 = λ none. absurd (omega (arith, none, phase, least)) in
    let is = next_writes f.plan.b (turns_made f) w.number w.bucket c.requires.held c.requires.bucket (omega (arith, phase, least)) ∙ ap (λ (x : ℕ). Write w.bucket (x - 3)) phase in
    write_here g.V.Device.faults g.G.Told.draws f (attempt_begun f) w.number c.requires.at_work c.requires.number c.requires.runs _
    (ap (λ (x : Parts _). record x { recorder = r; counted = record x.counted { writes = c.counted-self-inside.result }; stop = s }) c.self.view_is
    ∙ ap (λ (n : ℕ). record f { recorder = r; counted = record f.counted { writes = n }; stop = s }) (c.counted-self-inside.ensures ∙ ap (λ (x : Parts _). one_more x.counted.writes s) c.self.view_is))
    w.bucket (w.phase - 3) is later
    w.buffers.plan w.attempt c.self.inside.recorder c.requires.plan c.requires.attempt (ap (λ (f : Parts _). f.recorder) c.self.view_is)
    c.write-self-inside.ensures.trace c.write-self-inside.ensures.stops

pub counted-self-inside-requires-clause-few : goal.counted-self-inside-requires-clause-few
counted-self-inside-requires-clause-few g c =
    let f = c.args.self.now in
    let few = writes_few g.V.Device.faults g.G.Told.draws f (attempt_begun f) c.args.worker.now.number c.requires.at_work c.requires.number c.requires.runs in
    let b_is : c.b-b.result ≡ f.plan.b = c.b-b.ensures.value ∙ ap (λ (p : Sizes). p.b) (c.plan.ensures ∙ ap (λ (x : Parts _). x.plan) c.self.view_is) in
    let writes_is : c.self.inside.writes ≡ f.counted.writes = ap (λ (x : Parts _). x.counted.writes) c.self.view_is in
    subst (λ (n : ℕ). n ≤ c.b-b.result * c.b-b.result) (sym writes_is) (subst (λ (x : ℕ). f.counted.writes ≤ x * x) (sym b_is) few)

pub returns-clause-answer : goal.returns-clause-answer
returns-clause-answer g c =
    let f = c.args.self.now in
    let w = c.args.worker.now in
    let phase = c.requires.phase in
    let least = c.requires.least in
    let is = next_writes f.plan.b (turns_made f) w.number w.bucket c.requires.held c.requires.bucket (omega (arith, phase, least)) ∙ ap (λ (x : ℕ). Write w.bucket (x - 3)) phase in
    c.answer.ensures
    ∙ answered_is _ _ c.write-self-inside.result
    (ap (λ (e : Event). answer_of e None) is
    ∙ ap (λ (j : ℕ). answer_of (Write j (w.phase - 3)) None) (sym c.bucket-bucket.ensures)
    ∙ ap (λ (x : ℕ). answer_of (Write c.bucket-bucket.result (x - 3)) None) (sym c.phase.ensures))
