-- The worker is in its round after the act.
use Rattle.std.proofs.Common.{ℕ, ◌+◌, ◌-◌, ◌<◌, ◌≤◌, ◌++◌, ◌∷◌, [], sym, ap, ◌∙◌, subst, arith, append-nil, refl}
use Rattle.std.specs.Option.{option_to_list}
use Rattle.esa_params.specs.Sizes.{Sizes}
use Rattle.esa_spec.specs.Traces.{asked}
use Rattle.esa_spec.specs.declared.event.Event.{Event}
use Rattle.esa_spec.specs.declared.event.Event.TheVariants.{Write}
use Rattle.esa_floor.specs.Acts.{StopsBy}
use Rattle.esa_floor.specs.Keeping.{Deals, Leaves}
use Rattle.esa_floor.specs.Logging.{noted_of}
use Rattle.esa_floor.specs.Parts.{Parts}
use Rattle.esa_floor.specs.Standing.{attempt_begun, turns_made}
use Rattle.esa_floor.specs.Workers.{IsInRound}
use Rattle.esa_floor.specs.Working.{Working}
use Rattle.esa_floor.proofs.Acting.{next_exchanges, next_reads, next_writes}
use Rattle.esa_floor.proofs.Keeping.{read_holds}
use Rattle.esa_floor.proofs.Rounding.{exchange_round, no_second, read_round, write_round}
use Rattle.esa_floor.proofs.floor.Floor.go_on.Goals as goal

pub returns-then-phase-eq1-clause-round : goal.returns-then-phase-eq1-clause-round
returns-then-phase-eq1-clause-round g c = λ runs.
    let f = c.args.self.now in
    let w = c.args.worker.now in
    subst (λ (w : Working _). IsInRound f.plan.b (turns_made f ++ c.args.worker.now.number ∷ []) w) (sym (c.read.ensures.worker runs))
    (read_round f.plan.b (turns_made f) w c.requires.round _ (sym c.phase-phase.ensures ∙ c.if-phase-eq1.true))

pub returns-then-phase-eq2-clause-round : goal.returns-then-phase-eq2-clause-round
returns-then-phase-eq2-clause-round g c = λ runs.
    let f = c.args.self.now in
    let w = c.args.worker.now in
    subst (λ (w : Working _). IsInRound f.plan.b (turns_made f ++ c.args.worker.now.number ∷ []) w) (sym (c.exchange.ensures.worker runs))
    (exchange_round f.plan.b (turns_made f) w c.requires.round _ (sym c.phase-phase.ensures ∙ c.if-phase-eq2.true) c.requires.bucket)

pub returns-clause-round : goal.returns-clause-round
returns-clause-round g c = λ runs.
    let f = c.args.self.now in
    let w = c.args.worker.now in
    let is = c.phase-phase.ensures in
    let first = c.if-phase-eq1.false in
    let second = c.if-phase-eq2.false in
    let later = c.requires.later in
    let least : 3 ≤ w.phase = omega (arith, is, first, second, later) in
    subst (λ (w : Working _). IsInRound f.plan.b (turns_made f ++ c.args.worker.now.number ∷ []) w) (sym (c.write.ensures.worker runs))
    (write_round f.plan.b (turns_made f) w c.requires.round least (c.requires.blocks least c.requires.bucket) (ap (λ (p : Sizes). p.b) c.requires.plan))

pub returns-then-phase-eq1-clause-access : goal.returns-then-phase-eq1-clause-access
returns-then-phase-eq1-clause-access g c =
    let f = c.args.self.now in
    let w = c.args.worker.now in
    let first = c.requires.phase ∙ sym c.phase-phase.ensures ∙ c.if-phase-eq1.true in
    c.read.ensures.access
    ∙ ap (λ (e : Event). f.recorder.trace ++ option_to_list (asked f.plan (attempt_begun f) e))
    (sym (next_reads f.plan.b (turns_made f) w.number w.bucket c.requires.held c.requires.bucket first))

pub returns-then-phase-eq2-clause-access : goal.returns-then-phase-eq2-clause-access
returns-then-phase-eq2-clause-access g c =
    let f = c.args.self.now in
    let w = c.args.worker.now in
    let second = c.requires.phase ∙ sym c.phase-phase.ensures ∙ c.if-phase-eq2.true in
    ap (λ (x : Parts _). x.recorder.trace) c.exchange.ensures.floor ∙ sym (append-nil f.recorder.trace)
    ∙ ap (λ (e : Event). f.recorder.trace ++ option_to_list (asked f.plan (attempt_begun f) e))
    (sym (next_exchanges f.plan.b (turns_made f) w.number w.bucket c.requires.held c.requires.bucket second))

pub returns-clause-access : goal.returns-clause-access
returns-clause-access g c =
    let f = c.args.self.now in
    let w = c.args.worker.now in
    let is = c.phase-phase.ensures in
    let first = c.if-phase-eq1.false in
    let second = c.if-phase-eq2.false in
    let later = c.requires.later in
    let phase = c.requires.phase in
    c.write.ensures.access
    ∙ ap (λ (e : Event). f.recorder.trace ++ option_to_list (asked f.plan (attempt_begun f) e))
    (sym (next_writes f.plan.b (turns_made f) w.number w.bucket c.requires.held c.requires.bucket (omega (arith, phase, is, first, second, later))
    ∙ ap (λ (x : ℕ). Write w.bucket (x - 3)) phase))

pub returns-then-phase-eq1-clause-log : goal.returns-then-phase-eq1-clause-log
returns-then-phase-eq1-clause-log g c =
    let f = c.args.self.now in
    let w = c.args.worker.now in
    let new = c.read.new.self in
    let first = c.requires.phase ∙ sym c.phase-phase.ensures ∙ c.if-phase-eq1.true in
    c.read.ensures.log
    ∙ ap (λ (e : Event). f.recorder.log ++ noted_of f.plan w.run (attempt_begun f) e new.stop new.recorder.last w.buffers.chunks)
    (sym (next_reads f.plan.b (turns_made f) w.number w.bucket c.requires.held c.requires.bucket first))

pub returns-then-phase-eq2-clause-log : goal.returns-then-phase-eq2-clause-log
returns-then-phase-eq2-clause-log g c =
    let f = c.args.self.now in
    let w = c.args.worker.now in
    let new = c.exchange.new.self in
    let second = c.requires.phase ∙ sym c.phase-phase.ensures ∙ c.if-phase-eq2.true in
    ap (λ (x : Parts _). x.recorder.log) c.exchange.ensures.floor ∙ sym (append-nil f.recorder.log)
    ∙ ap (λ (e : Event). f.recorder.log ++ noted_of f.plan w.run (attempt_begun f) e new.stop new.recorder.last w.buffers.chunks)
    (sym (next_exchanges f.plan.b (turns_made f) w.number w.bucket c.requires.held c.requires.bucket second))

pub returns-clause-log : goal.returns-clause-log
returns-clause-log g c =
    let f = c.args.self.now in
    let w = c.args.worker.now in
    let new = c.write.new.self in
    let is = c.phase-phase.ensures in
    let first = c.if-phase-eq1.false in
    let second = c.if-phase-eq2.false in
    let later = c.requires.later in
    let phase = c.requires.phase in
    c.write.ensures.log
    ∙ ap (λ (e : Event). f.recorder.log ++ noted_of f.plan w.run (attempt_begun f) e new.stop new.recorder.last w.buffers.chunks)
    (sym (next_writes f.plan.b (turns_made f) w.number w.bucket c.requires.held c.requires.bucket (omega (arith, phase, is, first, second, later))
    ∙ ap (λ (x : ℕ). Write w.bucket (x - 3)) phase))

pub returns-then-phase-eq1-clause-holds : goal.returns-then-phase-eq1-clause-holds
returns-then-phase-eq1-clause-holds g c = λ record_of input begun runs second inside.
    let f = c.args.self.now in
    let w = c.args.worker.now in
    read_holds f c.read.new.self w c.read.new.worker (attempt_begun f) c.read.ensures.floor (ap (λ (x : Working _). x.bucket) (c.read.ensures.worker runs))
    c.read.ensures.log (c.read.ensures.opened runs) record_of input c.requires.bucket

pub returns-then-phase-eq2-clause-holds : goal.returns-then-phase-eq2-clause-holds
returns-then-phase-eq2-clause-holds g c = λ record_of input begun runs second inside.
    let third = ap (λ (x : Working _). x.phase) (c.exchange.ensures.worker runs) in
    absurd (omega (arith, second, third))

pub returns-clause-holds : goal.returns-clause-holds
returns-clause-holds g c = λ record_of input begun runs second inside.
    let w = c.args.worker.now in
    let is = c.phase-phase.ensures in
    let first = c.if-phase-eq1.false in
    let two = c.if-phase-eq2.false in
    let later = c.requires.later in
    let least : 3 ≤ w.phase = omega (arith, is, first, two, later) in
    let most = subst (λ (b : ℕ). w.phase < b + 3) (sym (ap (λ (p : Sizes). p.b) c.requires.plan)) c.requires.most in
    absurd (no_second w.phase (w.buffers.plan.b + 3) least most (sym (ap (λ (x : Working _). x.phase) (c.write.ensures.worker runs)) ∙ second))

pub returns-then-phase-eq1-clause-deals : goal.returns-then-phase-eq1-clause-deals
returns-then-phase-eq1-clause-deals g c = λ runs.
    let f = c.args.self.now in
    let w = c.args.worker.now in
    let first = c.requires.phase ∙ sym c.phase-phase.ensures ∙ c.if-phase-eq1.true in
    subst (λ (e : Event). Deals (g.C.Coins.target_list w.coins) e f c.read.new.self w)
    (sym (next_reads f.plan.b (turns_made f) w.number w.bucket c.requires.held c.requires.bucket first)) (ap (λ (x : Parts _). x.stash) c.read.ensures.floor)

pub returns-then-phase-eq2-clause-deals : goal.returns-then-phase-eq2-clause-deals
returns-then-phase-eq2-clause-deals g c = λ runs.
    let f = c.args.self.now in
    let w = c.args.worker.now in
    let is = sym c.phase-phase.ensures ∙ c.if-phase-eq2.true in
    subst (λ (e : Event). Deals (g.C.Coins.target_list w.coins) e f c.exchange.new.self w)
    (sym (next_exchanges f.plan.b (turns_made f) w.number w.bucket c.requires.held c.requires.bucket (c.requires.phase ∙ is))) (is, c.exchange.ensures.dealt runs)

pub returns-clause-deals : goal.returns-clause-deals
returns-clause-deals g c = λ runs.
    let f = c.args.self.now in
    let w = c.args.worker.now in
    let is = c.phase-phase.ensures in
    let first = c.if-phase-eq1.false in
    let second = c.if-phase-eq2.false in
    let later = c.requires.later in
    let phase = c.requires.phase in
    subst (λ (e : Event). Deals (g.C.Coins.target_list w.coins) e f c.write.new.self w)
    (sym (next_writes f.plan.b (turns_made f) w.number w.bucket c.requires.held c.requires.bucket (omega (arith, phase, is, first, second, later))))
    (ap (λ (x : Parts _). x.stash) c.write.ensures.floor)

pub returns-then-phase-eq1-clause-leaves : goal.returns-then-phase-eq1-clause-leaves
returns-then-phase-eq1-clause-leaves g c = λ runs.
    let f = c.args.self.now in
    let w = c.args.worker.now in
    let first = c.requires.phase ∙ sym c.phase-phase.ensures ∙ c.if-phase-eq1.true in
    subst (λ (e : Event). Leaves e c.read.new.self.recorder.last f w c.read.new.worker)
    (sym (next_reads f.plan.b (turns_made f) w.number w.bucket c.requires.held c.requires.bucket first))
    (record {
      phase = ap (λ (x : Working _). x.phase) (c.read.ensures.worker runs);
      bucket = ap (λ (x : Working _). x.bucket) (c.read.ensures.worker runs);
      text = (c.read.ensures.opened runs).given;
    })

pub returns-then-phase-eq2-clause-leaves : goal.returns-then-phase-eq2-clause-leaves
returns-then-phase-eq2-clause-leaves g c = λ runs.
    let f = c.args.self.now in
    let w = c.args.worker.now in
    let is = sym c.phase-phase.ensures ∙ c.if-phase-eq2.true in
    subst (λ (e : Event). Leaves e c.exchange.new.self.recorder.last f w c.exchange.new.worker)
    (sym (next_exchanges f.plan.b (turns_made f) w.number w.bucket c.requires.held c.requires.bucket (c.requires.phase ∙ is)))
    (record { bucket = ap (λ (x : Working _). x.bucket) (c.exchange.ensures.worker runs); chunks_are = c.exchange.ensures.chunks runs })

pub returns-clause-leaves : goal.returns-clause-leaves
returns-clause-leaves g c = λ runs.
    let f = c.args.self.now in
    let w = c.args.worker.now in
    let is = c.phase-phase.ensures in
    let first = c.if-phase-eq1.false in
    let second = c.if-phase-eq2.false in
    let later = c.requires.later in
    let phase = c.requires.phase in
    let least : 3 ≤ w.phase = omega (arith, is, first, second, later) in
    subst (λ (e : Event). Leaves e c.write.new.self.recorder.last f w c.write.new.worker)
    (sym (next_writes f.plan.b (turns_made f) w.number w.bucket c.requires.held c.requires.bucket (omega (arith, phase, is, first, second, later))))
    (record {
      phase = least;
      before = refl;
      bucket = ap (λ (x : Working _). x.bucket) (c.write.ensures.worker runs);
      same = ap (λ (x : Working _). x.buffers.chunks) (c.write.ensures.worker runs);
    })

pub returns-then-phase-eq1-clause-failed : goal.returns-then-phase-eq1-clause-failed
returns-then-phase-eq1-clause-failed g c = λ failed. ap (λ (x : Parts _). x.stash) c.read.ensures.floor

pub returns-clause-failed : goal.returns-clause-failed
returns-clause-failed g c = λ failed. ap (λ (x : Parts _). x.stash) c.write.ensures.floor

pub returns-then-phase-eq1-clause-reads : goal.returns-then-phase-eq1-clause-reads
returns-then-phase-eq1-clause-reads g c =
    let f = c.args.self.now in
    let w = c.args.worker.now in
    let new = c.read.new.self in
    let first = c.requires.phase ∙ sym c.phase-phase.ensures ∙ c.if-phase-eq1.true in
    subst (λ (e : Event). StopsBy f.plan f.run (attempt_begun f) e new.recorder.last (g.V.Device.faults f.recorder.device) (g.V.Device.faults new.recorder.device) new.stop)
    (sym (next_reads f.plan.b (turns_made f) w.number w.bucket c.requires.held c.requires.bucket first)) c.read.ensures.reads

pub returns-then-phase-eq2-clause-reads : goal.returns-then-phase-eq2-clause-reads
returns-then-phase-eq2-clause-reads g c =
    let f = c.args.self.now in
    let w = c.args.worker.now in
    let new = c.exchange.new.self in
    let second = c.requires.phase ∙ sym c.phase-phase.ensures ∙ c.if-phase-eq2.true in
    subst (λ (e : Event). StopsBy f.plan f.run (attempt_begun f) e new.recorder.last (g.V.Device.faults f.recorder.device) (g.V.Device.faults new.recorder.device) new.stop)
    (sym (next_exchanges f.plan.b (turns_made f) w.number w.bucket c.requires.held c.requires.bucket second)) tt

pub returns-clause-reads : goal.returns-clause-reads
returns-clause-reads g c =
    let f = c.args.self.now in
    let w = c.args.worker.now in
    let new = c.write.new.self in
    let is = c.phase-phase.ensures in
    let first = c.if-phase-eq1.false in
    let second = c.if-phase-eq2.false in
    let later = c.requires.later in
    let phase = c.requires.phase in
    subst (λ (e : Event). StopsBy f.plan f.run (attempt_begun f) e new.recorder.last (g.V.Device.faults f.recorder.device) (g.V.Device.faults new.recorder.device) new.stop)
    (sym (next_writes f.plan.b (turns_made f) w.number w.bucket c.requires.held c.requires.bucket (omega (arith, phase, is, first, second, later)))) tt
