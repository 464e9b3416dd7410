use Rattle.std.proofs.Common.{◌≡◌, ℕ, List, ◌<◌, All, Some, length, refl, sym, ap, ◌∙◌, subst, arith, Ok, Err}
use Rattle.std.specs.Prelude.{slice_index}
use Rattle.esa_floor.specs.Parts.{Parts}
use Rattle.esa_floor.specs.Standing.{turns_made}
use Rattle.esa_params.specs.Sizes.{Sizes}
use Rattle.esa_params.specs.Slots.{item_length}
use Rattle.esa_spec.specs.Turns.{order}
use Rattle.esa_spec.specs.Verdicts.{is_left}
use Rattle.esa_report.specs.declared.item.Item.{Item}
use Rattle.esa_stash.specs.Stash.{queue_at}
use Rattle.esa_vault.specs.Placed.{IsSpelled}
use Rattle.esa_press.specs.Drained.{AreDrained}
use Rattle.esa_press.specs.Pressed.{Pressed}
use Rattle.esa_press.proofs.Draining.{all_queued, all_waits, counted_then, drain_ends, drained_more, drained_none, none_passes, none_left, noted_more}
use Rattle.esa_press.proofs.Failing.{drained_ends}
use Rattle.esa_press.proofs.Giving.{drained_gave}
use Rattle.esa_press.proofs.Storing.{chunks_stay, input_drained, tails_stored}
use Rattle.esa_press.proofs.Taking.{took_drained}
use Rattle.esa_press.proofs.press.Press.drain.Goals as goal

pub loop-target-init : goal.loop-target-init
loop-target-init g c = record {
  drained = drained_none g.V.Device.faults c.args.attempt c.args.floor.now;
  noted = λ i i_in. absurd (omega arith);
  others = refl;
}

pub drain_one-requires-clause-plan : goal.drain_one-requires-clause-plan
drain_one-requires-clause-plan g c =
    let inv = c.loop-target.invariant in
    ap (λ (w : Pressed). w.plan) inv.others ∙ c.requires.plan ∙ sym (ap (λ (f : Parts _). f.plan) inv.drained.others)

pub drain_one-requires-clause-run : goal.drain_one-requires-clause-run
drain_one-requires-clause-run g c =
    let inv = c.loop-target.invariant in
    ap (λ (w : Pressed). w.run) inv.others ∙ c.requires.run ∙ sym (ap (λ (f : Parts _). f.run) inv.drained.others)

pub drain_one-requires-clause-target : goal.drain_one-requires-clause-target
drain_one-requires-clause-target g c =
    let same : c.loop-target.floor.plan.b ≡ c.args.floor.now.plan.b = ap (λ (f : Parts _). f.plan.b) c.loop-target.invariant.drained.others in
    let end : c.b-target-end.result ≡ c.args.floor.now.plan.b = c.b-target-end.ensures.value ∙ ap (λ (q : Sizes). q.b) (c.plan.ensures ∙ c.requires.plan) in
    omega (arith, c.loop-target-test.true, same, end)

pub drain_one-requires-clause-ready : goal.drain_one-requires-clause-ready
drain_one-requires-clause-ready g c =
    let inv = c.loop-target.invariant in
    inv.drained.ready ∙ c.requires.ready ∙ ap Some (sym (ap (λ (f : Parts _). f.plan) inv.drained.others))

pub drain_one-requires-clause-room : goal.drain_one-requires-clause-room
drain_one-requires-clause-room g c =
    let end : c.b-target-end.result ≡ c.args.floor.now.plan.b = c.b-target-end.ensures.value ∙ ap (λ (q : Sizes). q.b) (c.plan.ensures ∙ c.requires.plan) in
    omega (arith, c.loop-target-test.true, end, c.loop-target.invariant.drained.room, c.requires.room)

pub drain_one-requires-clause-spelled : goal.drain_one-requires-clause-spelled
drain_one-requires-clause-spelled g c =
    let inv = c.loop-target.invariant in
    let f = c.args.floor.now in
    subst (λ (q : Sizes). All (IsSpelled (item_length q.form)) (queue_at c.loop-target.floor.stash c.loop-target.target)) (sym (ap (λ (f : Parts _). f.plan) inv.drained.others))
    (subst (All (IsSpelled (item_length f.plan.form))) (sym (inv.drained.waits c.loop-target.target (omega arith)))
    (all_queued (IsSpelled (item_length f.plan.form)) f.stash.queues c.loop-target.target c.requires.spread.spelled))

pub returns-in-Err-clause-ends : goal.returns-in-Err-clause-ends
returns-in-Err-clause-ends g c =
    let f = c.args.floor.now in
    let d = g.G.Told.draws c.args.attempt in
    let end : c.b-target-end.result ≡ f.plan.b = c.b-target-end.ensures.value ∙ ap (λ (q : Sizes). q.b) (c.plan.ensures ∙ c.requires.plan) in
    drain_ends g.V.Device.told g.V.Device.faults g.V.Device.last_call c.args.attempt c.loop-target.target f d (order f.plan.b (turns_made f))
    (omega (arith, c.loop-target-test.true, end)) (all_waits f.plan d (turns_made f) f.stash f.counts f.counted c.requires.spread c.requires.all)
    c.loop-target.floor c.drain_one.new.floor c.loop-target.self.tails c.drain_one.new.self.tails c.in-Err.halt c.loop-target.invariant.drained c.in-Err.ensures.answer

pub loop-target-preserved : goal.loop-target-preserved
loop-target-preserved g c =
    let f = c.args.floor.now in
    let t = c.loop-target.target in
    let inv = c.loop-target.invariant in
    let answer = c.in_default.ensures.answer in
    let same : c.loop-target.floor.plan.b ≡ f.plan.b = ap (λ (f : Parts _). f.plan.b) inv.drained.others in
    let end : c.b-target-end.result ≡ f.plan.b = c.b-target-end.ensures.value ∙ ap (λ (q : Sizes). q.b) (c.plan.ensures ∙ c.requires.plan) in
    let own : c.loop-target.self.plan.b ≡ f.plan.b = ap (λ (w : Pressed). w.plan.b) inv.others ∙ ap (λ (q : Sizes). q.b) c.requires.plan in
    let long : t < length c.loop-target.self.tails = omega (arith, c.drain_one.ensures.each, own, end, c.loop-target-test.true) in
    let counts : ℕ → ℕ = λ (i : ℕ). length (queue_at f.stash i) in
    record {
      drained = drained_more g.V.Device.told g.V.Device.faults g.V.Device.last_call c.args.attempt t f c.loop-target.floor c.drain_one.new.floor c.loop-target.self.tails c.drain_one.new.self.tails c.in_default.field-0 inv.drained answer;
      noted = λ i i_in.
          ap (λ (xs : List ℕ). slice_index xs i) answer.2
          ∙ noted_more c.loop-target.self.tails t counts (length (queue_at c.loop-target.floor.stash t)) long (ap (λ (q : List Item). length q) (inv.drained.waits t (omega arith))) inv.noted i i_in;
      others = c.drain_one.ensures.others ∙ ap (λ (w : Pressed). record w { tails = c.drain_one.new.self.tails }) inv.others;
    }

pub returns-clause-ends : goal.returns-clause-ends
returns-clause-ends g c =
    let f = c.args.floor.now in
    let d = g.G.Told.draws c.args.attempt in
    let o = order f.plan.b (turns_made f) in
    let last : c.loop-target.target ≡ f.plan.b =
    let end = c.b-target-end.ensures.value ∙ ap (λ (q : Sizes). q.b) (c.plan.ensures ∙ c.requires.plan) in
    omega (arith, c.loop-target-test.false, end, c.loop-target.auto.target-end) in
    let all = subst (λ (n : ℕ). AreDrained g.V.Device.faults c.args.attempt n f c.loop-target.floor) last c.loop-target.invariant.drained in
    (none_passes (is_left f.plan d o) f.plan.b (λ x x_in. none_left f d o (all_waits f.plan d (turns_made f) f.stash f.counts f.counted c.requires.spread c.requires.all) f.plan.b x (omega arith) x_in all.few), all)

pub returns-clause-counted : goal.returns-clause-counted
returns-clause-counted g c = λ drawn.
    let f = c.args.floor.now in
    let d = g.G.Told.draws c.args.attempt in
    let o = order f.plan.b (turns_made f) in
    let last : c.loop-target.target ≡ f.plan.b =
    let end = c.b-target-end.ensures.value ∙ ap (λ (q : Sizes). q.b) (c.plan.ensures ∙ c.requires.plan) in
    omega (arith, c.loop-target-test.false, end, c.loop-target.auto.target-end) in
    let all = subst (λ (n : ℕ). AreDrained g.V.Device.faults c.args.attempt n f c.loop-target.floor) last c.loop-target.invariant.drained in
    counted_then f.plan d (turns_made f) f.stash f.counts f.counted c.loop-target.self.tails drawn c.requires.spread c.requires.all
    (none_passes (is_left f.plan d o) f.plan.b (λ x x_in. none_left f d o (all_waits f.plan d (turns_made f) f.stash f.counts f.counted c.requires.spread c.requires.all) f.plan.b x (omega arith) x_in all.few))
    (λ i i_in. c.loop-target.invariant.noted i (omega (arith, i_in, last)))

pub returns-clause-tails : goal.returns-clause-tails
returns-clause-tails g c = λ record_of queues.
    let f = c.args.floor.now in
    let last : c.loop-target.target ≡ f.plan.b =
    let end = c.b-target-end.ensures.value ∙ ap (λ (q : Sizes). q.b) (c.plan.ensures ∙ c.requires.plan) in
    omega (arith, c.loop-target-test.false, end, c.loop-target.auto.target-end) in
    tails_stored g.V.Device.faults c.args.attempt f (g.G.Told.draws c.args.attempt) (turns_made f) record_of c.loop-target.floor (sym c.requires.spread.writes ∙ c.requires.all) queues
    (subst (λ (n : ℕ). AreDrained g.V.Device.faults c.args.attempt n f c.loop-target.floor) last c.loop-target.invariant.drained)

pub returns-clause-chunks : goal.returns-clause-chunks
returns-clause-chunks g c = λ record_of.
    let f = c.args.floor.now in
    chunks_stay g.V.Device.faults c.args.attempt f (g.G.Told.draws c.args.attempt) (turns_made f) record_of {T = Unit {0}} (order f.plan.b (turns_made f)) c.loop-target.floor (Ok tt) (returns-clause-ends g c)

pub returns-in-Err-clause-chunks : goal.returns-in-Err-clause-chunks
returns-in-Err-clause-chunks g c = λ record_of.
    let f = c.args.floor.now in
    chunks_stay g.V.Device.faults c.args.attempt f (g.G.Told.draws c.args.attempt) (turns_made f) record_of {T = Unit {0}} (order f.plan.b (turns_made f)) c.drain_one.new.floor (Err c.in-Err.halt) (returns-in-Err-clause-ends g c)

pub returns-clause-input : goal.returns-clause-input
returns-clause-input g c = λ record_of.
    let f = c.args.floor.now in
    input_drained g.V.Device.faults c.args.attempt f (g.G.Told.draws c.args.attempt) (turns_made f) record_of {T = Unit {0}} (order f.plan.b (turns_made f)) c.loop-target.floor (Ok tt) (returns-clause-ends g c)

pub returns-in-Err-clause-input : goal.returns-in-Err-clause-input
returns-in-Err-clause-input g c = λ record_of.
    let f = c.args.floor.now in
    input_drained g.V.Device.faults c.args.attempt f (g.G.Told.draws c.args.attempt) (turns_made f) record_of {T = Unit {0}} (order f.plan.b (turns_made f)) c.drain_one.new.floor (Err c.in-Err.halt) (returns-in-Err-clause-ends g c)

pub returns-clause-took : goal.returns-clause-took
returns-clause-took g c = λ record_of made queues.
    let f = c.args.floor.now in
    let a = c.args.attempt in
    took_drained f g.G.Told.draws a (turns_made f) record_of made g.V.Device.faults (sym c.requires.spread.writes ∙ c.requires.all) queues {T = Unit {0}} c.loop-target.floor (Ok tt) (returns-clause-ends g c)

pub returns-in-Err-clause-took : goal.returns-in-Err-clause-took
returns-in-Err-clause-took g c = λ record_of made queues.
    let f = c.args.floor.now in
    let a = c.args.attempt in
    took_drained f g.G.Told.draws a (turns_made f) record_of made g.V.Device.faults (sym c.requires.spread.writes ∙ c.requires.all) queues {T = Unit {0}} c.drain_one.new.floor (Err c.in-Err.halt) (returns-in-Err-clause-ends g c)

pub returns-clause-failed : goal.returns-clause-failed
returns-clause-failed g c =
    let f = c.args.floor.now in
    drained_ends g.V.Device.faults c.args.attempt f (g.G.Told.draws c.args.attempt) (order f.plan.b (turns_made f)) c.loop-target.floor (Ok tt) (returns-clause-ends g c)

pub returns-in-Err-clause-failed : goal.returns-in-Err-clause-failed
returns-in-Err-clause-failed g c =
    let f = c.args.floor.now in
    drained_ends g.V.Device.faults c.args.attempt f (g.G.Told.draws c.args.attempt) (order f.plan.b (turns_made f)) c.drain_one.new.floor (Err c.in-Err.halt) (returns-in-Err-clause-ends g c)

pub returns-clause-reads : goal.returns-clause-reads
returns-clause-reads g c = λ made gave.
    let f = c.args.floor.now in
    drained_gave g.G.Told.draws g.V.Device.faults c.args.attempt f (g.G.Told.draws c.args.attempt) (order f.plan.b (turns_made f)) gave c.loop-target.floor (Ok tt) (returns-clause-ends g c)

pub returns-in-Err-clause-reads : goal.returns-in-Err-clause-reads
returns-in-Err-clause-reads g c = λ made gave.
    let f = c.args.floor.now in
    drained_gave g.G.Told.draws g.V.Device.faults c.args.attempt f (g.G.Told.draws c.args.attempt) (order f.plan.b (turns_made f)) gave c.drain_one.new.floor (Err c.in-Err.halt) (returns-in-Err-clause-ends g c)
