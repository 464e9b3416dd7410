-- A round was begun with the next bucket, or with none.
use Rattle.std.proofs.Common.{◌≡◌, ℕ, ◌+◌, None, sym, ap, ◌∙◌, arith}
use Rattle.esa_params.specs.Sizes.{Sizes}
use Rattle.esa_spec.specs.declared.event.Event.{Event}
use Rattle.esa_spec.specs.declared.event.Event.TheVariants.{Claim}
use Rattle.esa_floor.specs.Acts.{answer_of}
use Rattle.esa_floor.specs.Parts.{Parts}
use Rattle.esa_floor.specs.Standing.{attempt_begun}
use Rattle.esa_floor.proofs.Making.{claim_none, claim_some, next_is_claim, next_is_none}
use Rattle.esa_floor.proofs.floor.Floor.claim.Goals as goal

pub returns-then-bucket-b-clause-stands : goal.returns-then-bucket-b-clause-stands
returns-then-bucket-b-clause-stands g c =
    let f = c.args.self.now in
    let b_is : c.b.result ≡ f.plan.b = c.b.ensures.value ∙ ap (λ (p : Sizes). p.b) (c.plan.ensures ∙ ap (λ (f : Parts _). f.plan) c.self.view_is) in
    let claims_is : c.self.inside.claims ≡ f.counted.claims = ap (λ (f : Parts _). f.counted.claims) c.self.view_is in
    claim_none g.V.Device.faults g.G.Told.draws f (attempt_begun f) c.args.worker.now.number c.requires.at_work c.requires.number c.requires.runs
    (omega (arith, b_is, claims_is)) c.requires.phase

pub returns-then-bucket-b-clause-answer : goal.returns-then-bucket-b-clause-answer
returns-then-bucket-b-clause-answer g c =
    let f = c.args.self.now in
    let b_is : c.b.result ≡ f.plan.b = c.b.ensures.value ∙ ap (λ (p : Sizes). p.b) (c.plan.ensures ∙ ap (λ (f : Parts _). f.plan) c.self.view_is) in
    let claims_is : c.self.inside.claims ≡ f.counted.claims = ap (λ (f : Parts _). f.counted.claims) c.self.view_is in
    sym (ap (λ (e : Event). answer_of e None)
    (next_is_none g.V.Device.faults g.G.Told.draws f (attempt_begun f) c.args.worker.now.number c.requires.at_work c.requires.number c.requires.runs c.requires.phase (omega (arith, b_is, claims_is))))

pub returns-clause-stands : goal.returns-clause-stands
returns-clause-stands g c =
    let f = c.args.self.now in
    let b_is : c.b.result ≡ f.plan.b = c.b.ensures.value ∙ ap (λ (p : Sizes). p.b) (c.plan.ensures ∙ ap (λ (f : Parts _). f.plan) c.self.view_is) in
    let claims_is : c.self.inside.claims ≡ f.counted.claims = ap (λ (f : Parts _). f.counted.claims) c.self.view_is in
    claim_some g.V.Device.faults g.G.Told.draws f (attempt_begun f) c.args.worker.now.number c.requires.at_work c.requires.number c.requires.runs _
    (ap (λ (f : Parts _). record f { counted = record f.counted { claims = f.counted.claims + 1 } }) c.self.view_is) (omega (arith, b_is, claims_is)) c.requires.phase

pub returns-clause-answer : goal.returns-clause-answer
returns-clause-answer g c =
    let f = c.args.self.now in
    let b_is : c.b.result ≡ f.plan.b = c.b.ensures.value ∙ ap (λ (p : Sizes). p.b) (c.plan.ensures ∙ ap (λ (f : Parts _). f.plan) c.self.view_is) in
    let claims_is : c.self.inside.claims ≡ f.counted.claims = ap (λ (f : Parts _). f.counted.claims) c.self.view_is in
    ap (λ (n : ℕ). answer_of (Claim n) None) claims_is
    ∙ sym (ap (λ (e : Event). answer_of e None)
    (next_is_claim g.V.Device.faults g.G.Told.draws f (attempt_begun f) c.args.worker.now.number c.requires.at_work c.requires.number c.requires.runs c.requires.phase (omega (arith, b_is, claims_is))))
