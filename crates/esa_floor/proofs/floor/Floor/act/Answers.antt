-- The worker is in its round after the act.
use Rattle.std.proofs.Common.{◌≡◌, ◌≢◌, ◌++◌, ◌∷◌, [], List, Option, None, refl, sym, ap, ◌∙◌, subst, arith, append-nil}
use Rattle.std.specs.Option.{option_to_list}
use Rattle.esa_params.specs.Sizes.{Sizes}
use Rattle.esa_params.specs.declared.slot.Access.{Access}
use Rattle.esa_spec.specs.Traces.{asked}
use Rattle.esa_spec.specs.declared.event.Event.{Event}
use Rattle.esa_device.specs.Logs.{Carried}
use Rattle.esa_floor.specs.Acts.{StopsBy}
use Rattle.esa_floor.specs.Keeping.{Deals, Leaves}
use Rattle.esa_floor.specs.Logging.{noted_of}
use Rattle.esa_floor.specs.Parts.{Parts}
use Rattle.esa_floor.specs.Standing.{attempt_begun, turns_made}
use Rattle.esa_floor.specs.Workers.{IsInRound}
use Rattle.esa_floor.specs.Working.{Working}
use Rattle.esa_floor.proofs.Acting.{at_first, next_is_idle}
use Rattle.esa_floor.proofs.Rounding.{claim_round, pass_round}
use Rattle.esa_floor.proofs.Turning.{spread_is}
use Rattle.esa_floor.proofs.floor.Floor.act.Goals as goal

pub returns-then-phase-eq0-clause-round : goal.returns-then-phase-eq0-clause-round
returns-then-phase-eq0-clause-round g c = λ runs.
    let f = c.args.self.now in
    let w = c.args.worker.now in
    subst (λ (w : Working _). IsInRound f.plan.b (turns_made f ++ c.args.worker.now.number ∷ []) w) (sym c.claim.ensures.worker)
    (claim_round f.plan.b (turns_made f) w c.requires.round f.counted.claims (sym c.phase.ensures ∙ c.if-phase-eq0.true)
    (spread_is g.V.Device.faults g.G.Told.draws f (attempt_begun f) w.number c.requires.at_work c.requires.number c.requires.runs).claims)

pub returns-then-bucket-b-clause-round : goal.returns-then-bucket-b-clause-round
returns-then-bucket-b-clause-round g c = λ runs.
    let f = c.args.self.now in
    let w = c.args.worker.now in
    let b_is : c.b.result ≡ f.plan.b = c.b.ensures.value ∙ ap (λ (p : Sizes). p.b) (c.plan.ensures ∙ ap (λ (f : Parts _). f.plan) c.self.view_is) in
    let phase_is = c.phase.ensures in
    let bucket_is = c.bucket.ensures in
    let none = c.if-bucket-b.true in
    let later = c.if-phase-eq0.false in
    let more : w.phase ≢ 0 = λ first. absurd (omega (arith, phase_is, later, first)) in
    subst (λ (w : Working _). IsInRound f.plan.b (turns_made f ++ c.args.worker.now.number ∷ []) w) (sym c.pass.ensures.worker)
    (pass_round f.plan.b (turns_made f) w c.requires.round more (omega (arith, b_is, bucket_is, none)) (ap (λ (p : Sizes). p.b) c.requires.plan))

pub returns-then-phase-eq0-clause-access : goal.returns-then-phase-eq0-clause-access
returns-then-phase-eq0-clause-access g c =
    let f = c.args.self.now in
    let w = c.args.worker.now in
    let first = c.requires.phase ∙ sym c.phase.ensures ∙ c.if-phase-eq0.true in
    ap (λ (x : Parts _). x.recorder.trace) c.claim.ensures.floor ∙ sym (append-nil f.recorder.trace)
    ∙ ap (λ (o : Option Access). f.recorder.trace ++ option_to_list o)
    (sym (at_first f.plan.b (turns_made f) w.number (λ e. asked f.plan (attempt_begun f) e ≡ None) (λ j. refl) refl first))

pub returns-then-bucket-b-clause-access : goal.returns-then-bucket-b-clause-access
returns-then-bucket-b-clause-access g c =
    let f = c.args.self.now in
    let w = c.args.worker.now in
    let b_is : c.b.result ≡ f.plan.b = c.b.ensures.value ∙ ap (λ (p : Sizes). p.b) (c.plan.ensures ∙ ap (λ (f : Parts _). f.plan) c.self.view_is) in
    let phase_is = c.phase.ensures in
    let bucket_is = c.bucket.ensures in
    let none = c.if-bucket-b.true in
    let later = c.if-phase-eq0.false in
    let more : w.phase ≢ 0 = λ first. absurd (omega (arith, phase_is, later, first)) in
    let held_is = c.requires.held more in
    let idle = next_is_idle f.plan.b (turns_made f) w.number (λ first. more (sym c.requires.phase ∙ first)) (omega (arith, held_is, bucket_is, b_is, none)) in
    sym (append-nil f.recorder.trace) ∙ ap (λ (e : Event). f.recorder.trace ++ option_to_list (asked f.plan (attempt_begun f) e)) (sym idle)

pub returns-then-phase-eq0-clause-log : goal.returns-then-phase-eq0-clause-log
returns-then-phase-eq0-clause-log g c =
    let f = c.args.self.now in
    let w = c.args.worker.now in
    let new = c.claim.new.self in
    let first = c.requires.phase ∙ sym c.phase.ensures ∙ c.if-phase-eq0.true in
    ap (λ (x : Parts _). x.recorder.log) c.claim.ensures.floor ∙ sym (append-nil f.recorder.log)
    ∙ ap (λ (more : List Carried). f.recorder.log ++ more)
    (sym (at_first f.plan.b (turns_made f) w.number (λ e. noted_of f.plan w.run (attempt_begun f) e new.stop new.recorder.last w.buffers.chunks ≡ []) (λ j. refl) refl first))

pub returns-then-bucket-b-clause-log : goal.returns-then-bucket-b-clause-log
returns-then-bucket-b-clause-log g c =
    let f = c.args.self.now in
    let w = c.args.worker.now in
    let b_is : c.b.result ≡ f.plan.b = c.b.ensures.value ∙ ap (λ (p : Sizes). p.b) (c.plan.ensures ∙ ap (λ (f : Parts _). f.plan) c.self.view_is) in
    let phase_is = c.phase.ensures in
    let bucket_is = c.bucket.ensures in
    let none = c.if-bucket-b.true in
    let later = c.if-phase-eq0.false in
    let more : w.phase ≢ 0 = λ first. absurd (omega (arith, phase_is, later, first)) in
    let held_is = c.requires.held more in
    let idle = next_is_idle f.plan.b (turns_made f) w.number (λ first. more (sym c.requires.phase ∙ first)) (omega (arith, held_is, bucket_is, b_is, none)) in
    sym (append-nil f.recorder.log)
    ∙ ap (λ (e : Event). f.recorder.log ++ noted_of f.plan w.run (attempt_begun f) e f.stop f.recorder.last w.buffers.chunks) (sym idle)

pub returns-then-phase-eq0-clause-holds : goal.returns-then-phase-eq0-clause-holds
returns-then-phase-eq0-clause-holds g c = λ record_of input begun runs second inside.
    let one = ap (λ (x : Working _). x.phase) c.claim.ensures.worker in
    absurd (omega (arith, one, second))

pub returns-then-bucket-b-clause-holds : goal.returns-then-bucket-b-clause-holds
returns-then-bucket-b-clause-holds g c = λ record_of input begun runs second inside.
    let f = c.args.self.now in
    let b_is : c.b.result ≡ f.plan.b = c.b.ensures.value ∙ ap (λ (p : Sizes). p.b) (c.plan.ensures ∙ ap (λ (f : Parts _). f.plan) c.self.view_is) in
    let bucket_is = c.bucket.ensures in
    let none = c.if-bucket-b.true in
    let same = ap (λ (x : Working _). x.bucket) c.pass.ensures.worker in
    absurd (omega (arith, inside, same, none, bucket_is, b_is))

pub returns-clause-holds : goal.returns-clause-holds
returns-clause-holds g c = c.go_on.ensures.holds

pub returns-then-phase-eq0-clause-deals : goal.returns-then-phase-eq0-clause-deals
returns-then-phase-eq0-clause-deals g c = λ runs.
    let f = c.args.self.now in
    let w = c.args.worker.now in
    let first = c.requires.phase ∙ sym c.phase.ensures ∙ c.if-phase-eq0.true in
    let same = ap (λ (x : Parts _). x.stash) c.claim.ensures.floor in
    at_first f.plan.b (turns_made f) w.number (λ (e : Event). Deals (g.C.Coins.target_list w.coins) e f c.claim.new.self w) (λ j. same) same first

pub returns-then-bucket-b-clause-deals : goal.returns-then-bucket-b-clause-deals
returns-then-bucket-b-clause-deals g c = λ runs.
    let f = c.args.self.now in
    let w = c.args.worker.now in
    let b_is : c.b.result ≡ f.plan.b = c.b.ensures.value ∙ ap (λ (p : Sizes). p.b) (c.plan.ensures ∙ ap (λ (f : Parts _). f.plan) c.self.view_is) in
    let phase_is = c.phase.ensures in
    let bucket_is = c.bucket.ensures in
    let none = c.if-bucket-b.true in
    let later = c.if-phase-eq0.false in
    let more : w.phase ≢ 0 = λ first. absurd (omega (arith, phase_is, later, first)) in
    let held_is = c.requires.held more in
    let idle = next_is_idle f.plan.b (turns_made f) w.number (λ first. more (sym c.requires.phase ∙ first)) (omega (arith, held_is, bucket_is, b_is, none)) in
    subst (λ (e : Event). Deals (g.C.Coins.target_list w.coins) e f f w) (sym idle) refl

pub returns-then-phase-eq0-clause-leaves : goal.returns-then-phase-eq0-clause-leaves
returns-then-phase-eq0-clause-leaves g c = λ runs.
    let f = c.args.self.now in
    let w = c.args.worker.now in
    let first = c.requires.phase ∙ sym c.phase.ensures ∙ c.if-phase-eq0.true in
    let one = ap (λ (x : Working _). x.phase) c.claim.ensures.worker in
    at_first f.plan.b (turns_made f) w.number (λ (e : Event). Leaves e c.claim.new.self.recorder.last f w c.claim.new.worker) (λ j. one) one first

pub returns-then-bucket-b-clause-leaves : goal.returns-then-bucket-b-clause-leaves
returns-then-bucket-b-clause-leaves g c = λ runs.
    let f = c.args.self.now in
    let w = c.args.worker.now in
    let b_is : c.b.result ≡ f.plan.b = c.b.ensures.value ∙ ap (λ (p : Sizes). p.b) (c.plan.ensures ∙ ap (λ (f : Parts _). f.plan) c.self.view_is) in
    let phase_is = c.phase.ensures in
    let bucket_is = c.bucket.ensures in
    let none = c.if-bucket-b.true in
    let later = c.if-phase-eq0.false in
    let more : w.phase ≢ 0 = λ first. absurd (omega (arith, phase_is, later, first)) in
    let held_is = c.requires.held more in
    let same = ap (λ (x : Working _). x.bucket) c.pass.ensures.worker in
    let idle = next_is_idle f.plan.b (turns_made f) w.number (λ first. more (sym c.requires.phase ∙ first)) (omega (arith, held_is, bucket_is, b_is, none)) in
    subst (λ (e : Event). Leaves e f.recorder.last f w c.pass.new.worker) (sym idle) (omega (arith, same, none, bucket_is, b_is))

pub returns-then-phase-eq0-clause-failed : goal.returns-then-phase-eq0-clause-failed
returns-then-phase-eq0-clause-failed g c = λ failed. ap (λ (x : Parts _). x.stash) c.claim.ensures.floor

pub returns-then-phase-eq0-clause-reads : goal.returns-then-phase-eq0-clause-reads
returns-then-phase-eq0-clause-reads g c =
    let f = c.args.self.now in
    let w = c.args.worker.now in
    let new = c.claim.new.self in
    let first = c.requires.phase ∙ sym c.phase.ensures ∙ c.if-phase-eq0.true in
    at_first f.plan.b (turns_made f) w.number
    (λ (e : Event). StopsBy f.plan f.run (attempt_begun f) e new.recorder.last (g.V.Device.faults f.recorder.device) (g.V.Device.faults new.recorder.device) new.stop)
    (λ j. tt) tt first

pub returns-then-bucket-b-clause-reads : goal.returns-then-bucket-b-clause-reads
returns-then-bucket-b-clause-reads g c =
    let f = c.args.self.now in
    let w = c.args.worker.now in
    let b_is : c.b.result ≡ f.plan.b = c.b.ensures.value ∙ ap (λ (p : Sizes). p.b) (c.plan.ensures ∙ ap (λ (f : Parts _). f.plan) c.self.view_is) in
    let phase_is = c.phase.ensures in
    let bucket_is = c.bucket.ensures in
    let none = c.if-bucket-b.true in
    let later = c.if-phase-eq0.false in
    let more : w.phase ≢ 0 = λ first. absurd (omega (arith, phase_is, later, first)) in
    let held_is = c.requires.held more in
    let idle = next_is_idle f.plan.b (turns_made f) w.number (λ first. more (sym c.requires.phase ∙ first)) (omega (arith, held_is, bucket_is, b_is, none)) in
    subst (λ (e : Event). StopsBy f.plan f.run (attempt_begun f) e f.recorder.last (g.V.Device.faults f.recorder.device) (g.V.Device.faults f.recorder.device) f.stop)
    (sym idle) tt

pub returns-clause-reads : goal.returns-clause-reads
returns-clause-reads g c = c.go_on.ensures.reads
