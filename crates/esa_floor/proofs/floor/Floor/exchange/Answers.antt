-- The items of the worker's bucket were exchanged.
use Rattle.std.proofs.Common.{◌≢◌, ℕ, None, sym, ap, ◌∙◌, arith}
use Rattle.esa_params.specs.Sizes.{Sizes}
use Rattle.esa_spec.specs.Turns.{next_phase}
use Rattle.esa_spec.specs.declared.event.Event.{Event}
use Rattle.esa_spec.specs.declared.event.Event.TheVariants.{Exchange}
use Rattle.esa_floor.specs.Acts.{answer_of}
use Rattle.esa_floor.specs.Parts.{Parts}
use Rattle.esa_floor.specs.Standing.{attempt_begun, turns_made}
use Rattle.esa_floor.specs.Working.{handed_by}
use Rattle.esa_floor.proofs.Acting.{next_exchanges}
use Rattle.esa_floor.proofs.Making.{answered_is, exchange_here, exchange_keeps, exchange_stays}
use Rattle.esa_floor.proofs.floor.Floor.exchange.Goals as goal

pub returns-clause-stands : goal.returns-clause-stands
returns-clause-stands g c =
    let f = c.args.self.now in
    let w = c.args.worker.now in
    let later : next_phase f.plan.b (turns_made f) w.number ≢ 0 = λ none. let two = c.requires.phase in absurd (omega (arith, none, two)) in
    let e = c.exchange-self-inside.new.exchanger in
    let s = c.exchange-self-inside.result in
    let same_plan = exchange_keeps c.self.inside.exchanger e w.bucket (handed_by w.buffers w.bucket) s c.exchange-self-inside.ensures.stops in
    exchange_here g.V.Device.faults g.G.Told.draws f (attempt_begun f) w.number c.requires.at_work c.requires.number c.requires.runs _ e c.self.inside.exchanger s
    (ap (λ (x : Parts _). record x { plan = e.plan; stash = e.stash; counts = e.counts; stop = s }) c.self.view_is
    ∙ ap (λ (p : Sizes). record f { plan = p; stash = e.stash; counts = e.counts; stop = s }) (same_plan ∙ ap (λ (x : Parts _). x.plan) c.self.view_is))
    (ap (λ (x : Parts _). record { plan = x.plan; stash = x.stash; counts = x.counts }) c.self.view_is)
    w.bucket (next_exchanges f.plan.b (turns_made f) w.number w.bucket c.requires.held c.requires.bucket c.requires.phase) later
    w.buffers w.outer w.attempt (g.C.Coins.target_list w.coins) c.requires.plan c.requires.attempt c.requires.draws c.requires.drawn
    c.exchange-self-inside.ensures.drawn c.exchange-self-inside.ensures.opened c.exchange-self-inside.ensures.text c.exchange-self-inside.ensures.of c.exchange-self-inside.ensures.stops

pub returns-clause-answer : goal.returns-clause-answer
returns-clause-answer g c =
    let f = c.args.self.now in
    let w = c.args.worker.now in
    c.answer.ensures
    ∙ answered_is _ _ c.exchange-self-inside.result
    (ap (λ (e : Event). answer_of e None) (next_exchanges f.plan.b (turns_made f) w.number w.bucket c.requires.held c.requires.bucket c.requires.phase)
    ∙ ap (λ (j : ℕ). answer_of (Exchange j) None) (sym c.bucket-bucket.ensures))

pub returns-clause-failed : goal.returns-clause-failed
returns-clause-failed g c = λ failed.
    let w = c.args.worker.now in
    exchange_stays c.self.inside.exchanger c.exchange-self-inside.new.exchanger w.bucket (handed_by w.buffers w.bucket) c.exchange-self-inside.result
    c.exchange-self-inside.ensures.stops failed
    ∙ ap (λ (x : Parts _). x.stash) c.self.view_is
