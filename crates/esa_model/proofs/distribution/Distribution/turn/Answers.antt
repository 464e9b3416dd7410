use Rattle.std.proofs.Common.{ℕ, ◌+◌, cond, ap, sym, ◌∙◌, subst, arith}
use Rattle.esa_params.specs.Sizes.{Sizes, size}
use Rattle.esa_spec.specs.Draws.{drawn}
use Rattle.esa_spec.specs.Turns.{exchanged, is_write}
use Rattle.esa_spec.specs.declared.event.Event.{Event}
use Rattle.esa_model.specs.Seats.{Seats, AreSeats}
use Rattle.esa_model.proofs.StandLemmas.{goes-on, ends-with, if-some}
use Rattle.esa_model.proofs.distribution.Distribution.turn.Goals as goal

pub returns-clause-sizes : goal.returns-clause-sizes
returns-clause-sizes g c =
    let p = c.args.self.now.lines.p in
    record {
      planned = c.requires.sizes.planned;
      plan = c.act.ensures.plan;
      buckets = ap (λ (s : Seats). s.b) (c.act.ensures.rounds ∙ c.take_turn-event.ensures.turn) ∙ c.requires.sizes.buckets;
      seats = subst (AreSeats p.workers) (sym c.act.ensures.rounds)
          (subst (λ (n : ℕ). AreSeats n c.take_turn-event.new.self) c.requires.sizes.seats.phase_each c.take_turn-event.ensures.seats);
      lines = c.act.ensures.lines;
    }

pub returns-clause-goes_on : goal.returns-clause-goes_on
returns-clause-goes_on g c none h stands =
    let coins = c.args.coins.now in
    let p = c.args.self.now.lines.p in
    let d = drawn (g.C.Coins.target_list coins) (g.C.Coins.order_list coins) c.args.attempt in
    let event = c.take_turn-event.ensures.event in
    goes-on p d h c.args.self.now c.requires.sizes stands c.args.worker c.requires.worker c.act.new.self
    (c.act.ensures.rounds ∙ c.take_turn-event.ensures.turn)
    (c.act.ensures.written ∙ ap (λ (e : Event). c.args.self.now.written + cond (is_write e) 1 0) event)
    c.act.result
    (λ e. c.act.ensures.quiet (ap exchanged event ∙ e))
    (λ j e. c.act.ensures.exchanged j (ap exchanged event ∙ e))
    (λ j e. c.act.ensures.verdict j (ap exchanged event ∙ e))
    (λ j j_in.
    g.met.C.Coins.target_for_each coins c.args.attempt j
    (omega (arith, c.requires.attempt, ap (λ (q : Sizes). q.attempts) c.requires.plan)) (omega (arith, ap (λ (q : Sizes). q.b) c.requires.plan))
    ∙ ap (λ (q : Sizes). size q j) c.requires.plan)
    none

pub returns-clause-ends : goal.returns-clause-ends
returns-clause-ends g c =
    let coins = c.args.coins.now in
    let p = c.args.self.now.lines.p in
    let d = drawn (g.C.Coins.target_list coins) (g.C.Coins.order_list coins) c.args.attempt in
    let event = c.take_turn-event.ensures.event in
    if-some c.act.result _ (λ v some h stands.
    ends-with p d h c.args.self.now c.requires.sizes stands c.args.worker c.requires.worker c.act.new.self
    (c.act.ensures.rounds ∙ c.take_turn-event.ensures.turn)
    (c.act.ensures.written ∙ ap (λ (e : Event). c.args.self.now.written + cond (is_write e) 1 0) event)
    c.act.result
    (λ e. c.act.ensures.quiet (ap exchanged event ∙ e))
    (λ j e. c.act.ensures.exchanged j (ap exchanged event ∙ e))
    (λ j e. c.act.ensures.verdict j (ap exchanged event ∙ e))
    (λ j j_in.
    g.met.C.Coins.target_for_each coins c.args.attempt j
    (omega (arith, c.requires.attempt, ap (λ (q : Sizes). q.attempts) c.requires.plan)) (omega (arith, ap (λ (q : Sizes). q.b) c.requires.plan))
    ∙ ap (λ (q : Sizes). size q j) c.requires.plan)
    v some)
