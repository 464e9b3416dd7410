use Rattle.std.proofs.Common.{◌++◌, OnOk, ◌≡◌, ◌+◌, ℕ, List, length, sum, ap, ◌∙◌, subst, arith, map}
use Rattle.std.specs.Prelude.{slice_index}
use Rattle.esa_floor.specs.Standing.{turns_made}
use Rattle.esa_floor.specs.Written.{attempt_turns}
use Rattle.esa_params.specs.Sizes.{Sizes}
use Rattle.esa_device.specs.Recording.{Recorded}
use Rattle.esa_press.specs.Pressed.{ImportAnswer, Pressed}
use Rattle.esa_compress.specs.Held.{held_in}
use Rattle.esa_device.specs.Logs.{IsFaithful, NoneFailed}
use Rattle.esa_envelope.specs.declared.keys.Keys.{Keys}
use Rattle.esa_report.specs.declared.item.Item.{Item}
use Rattle.esa_press.specs.Contents.{FailedByHalt}
use Rattle.esa_press.specs.Fetched.{AreStored, GoesOnReading}
use Rattle.esa_press.specs.Records.{imported_items}
use Rattle.esa_press.specs.Stepped.{parts_counted}
use Rattle.esa_press.proofs.Counting.{parts_few, tail_few}
use Rattle.esa_press.proofs.Fetching.{on_ok}
use Rattle.esa_press.proofs.Failing.{import_failed}
use Rattle.esa_press.proofs.Giving.{import_gave}
use Rattle.esa_press.proofs.Stepping.{import_keeps, import_logs, import_totals, import_made, waits_few, waits_more}
use Rattle.esa_press.proofs.Storing.{are_stored, import_answer_is, import_kept}
use Rattle.esa_spec.specs.Turns.{order}
use Rattle.esa_spec.specs.Lines.{chunk, tail}
use Rattle.esa_spec.specs.Places.{exchange_of}
use Rattle.esa_press.proofs.press.Press.import_target.Goals as goal

pub import-requires-clause-all : goal.import-requires-clause-all
import-requires-clause-all g c =
    let f = c.args.floor.now in
    let w = c.args.self.now in
    let i = c.args.target in
    let parts : c.count.new.self.counts ≡ parts_counted f.plan f.counts w.tails i =
    ap (λ (x : Pressed). x.counts) c.count.ensures ∙ ap (λ (q : Sizes). parts_counted q f.counts w.tails i) c.requires.at.plan in
    let most : c.count.new.self.plan.n ≡ f.plan.n = ap (λ (x : Pressed). x.plan.n) c.count.ensures ∙ ap (λ (q : Sizes). q.n) c.requires.at.plan in
    let waits : length c.count.new.self.queue ≡ length w.queue = ap (λ (x : Pressed). length x.queue) c.count.ensures in
    let few = waits_few g.V.Device.faults f.plan f.run (g.G.Told.draws c.args.attempt) c.args.attempt (turns_made f) f.counts w.tails c.requires.at.counted c.args.output i c.requires.target c.requires.at.put w.queue c.requires.at.waits in
    omega (arith, few, ap sum parts, most, waits)

pub import-requires-clause-few : goal.import-requires-clause-few
import-requires-clause-few g c = λ j j_in.
    let f = c.args.floor.now in
    let w = c.args.self.now in
    let i = c.args.target in
    let parts : c.count.new.self.counts ≡ parts_counted f.plan f.counts w.tails i =
    ap (λ (x : Pressed). x.counts) c.count.ensures ∙ ap (λ (q : Sizes). parts_counted q f.counts w.tails i) c.requires.at.plan in
    let same : c.count.new.self.plan ≡ f.plan = ap (λ (x : Pressed). x.plan) c.count.ensures ∙ c.requires.at.plan in
    let few = parts_few f.plan (g.G.Told.draws c.args.attempt) (turns_made f) f.counts w.tails c.requires.at.counted i c.requires.target j (omega (arith, j_in, ap (λ (q : Sizes). q.b) same)) in
    omega (arith, few, ap (λ (xs : List ℕ). slice_index xs j) parts, ap (λ (q : Sizes). q.c) same)

pub import-requires-clause-few_left : goal.import-requires-clause-few_left
import-requires-clause-few_left g c =
    let f = c.args.floor.now in
    let w = c.args.self.now in
    let i = c.args.target in
    let parts : c.count.new.self.counts ≡ parts_counted f.plan f.counts w.tails i =
    ap (λ (x : Pressed). x.counts) c.count.ensures ∙ ap (λ (q : Sizes). parts_counted q f.counts w.tails i) c.requires.at.plan in
    let same : c.count.new.self.plan ≡ f.plan = ap (λ (x : Pressed). x.plan) c.count.ensures ∙ c.requires.at.plan in
    let few = tail_few f.plan (g.G.Told.draws c.args.attempt) (turns_made f) f.counts w.tails c.requires.at.counted i c.requires.target in
    let at_end = ap (λ (xs : List ℕ). slice_index xs c.count.new.self.plan.b) parts ∙ ap (λ (n : ℕ). slice_index (parts_counted f.plan f.counts w.tails i) n) (ap (λ (q : Sizes). q.b) same) in
    omega (arith, few, at_end, ap (λ (q : Sizes). q.k) same)

pub returns-clause-made : goal.returns-clause-made
returns-clause-made g c =
    let f = c.args.floor.now in
    let w = c.args.self.now in
    let i = c.args.target in
    import_made g.V.Device.faults f.plan f.run (g.G.Told.draws c.args.attempt) c.args.attempt (turns_made f) f.counts w.tails c.requires.at.counted c.args.output i c.requires.target c.requires.at.put
    c.count.new.self (ap (λ (x : Pressed). x.plan) c.count.ensures ∙ c.requires.at.plan) (ap (λ (x : Pressed). x.run) c.count.ensures ∙ c.requires.at.run)
    (ap (λ (x : Pressed). x.counts) c.count.ensures ∙ ap (λ (q : Sizes). parts_counted q f.counts w.tails i) c.requires.at.plan)
    (ap (λ (x : Pressed). length x.queue) c.count.ensures ∙ c.requires.at.waits)
    f.recorder c.import.new.recorder c.import.result
    (subst (λ (r : Recorded _). ImportAnswer g.V.Device.faults c.count.new.self.plan c.count.new.self.run c.args.attempt i c.count.new.self.counts c.count.new.self.queue r c.import.new.recorder c.import.result)
    c.recorder.ensures.value c.import.ensures.answer)

pub returns-clause-waits : goal.returns-clause-waits
returns-clause-waits g c =
    let f = c.args.floor.now in
    let w = c.args.self.now in
    let i = c.args.target in
    on_ok c.import.result c.import.ensures.counted
    (λ grown. grown
    ∙ ap (λ (n : ℕ). n + sum c.count.new.self.counts) (ap (λ (x : Pressed). length x.queue) c.count.ensures)
    ∙ ap (λ (n : ℕ). length w.queue + n) (ap (λ (x : Pressed). sum x.counts) c.count.ensures ∙ ap (λ (q : Sizes). sum (parts_counted q f.counts w.tails i)) c.requires.at.plan)
    ∙ waits_more g.V.Device.faults f.plan f.run (g.G.Told.draws c.args.attempt) c.args.attempt (turns_made f) f.counts w.tails c.requires.at.counted c.args.output i c.requires.target c.requires.at.put w.queue c.requires.at.waits)

pub returns-clause-ready : goal.returns-clause-ready
returns-clause-ready g c =
    (import_keeps g.V.Device.faults c.count.new.self.plan c.count.new.self.run c.args.attempt c.args.target c.count.new.self.counts c.count.new.self.queue c.recorder.result.now c.import.new.recorder c.import.result c.import.ensures.answer).0
    ∙ ap (λ (r : Recorded _). r.plan) c.recorder.ensures.value

pub returns-clause-used : goal.returns-clause-used
returns-clause-used g c =
    let keeps = (import_keeps g.V.Device.faults c.count.new.self.plan c.count.new.self.run c.args.attempt c.args.target c.count.new.self.counts c.count.new.self.queue c.recorder.result.now c.import.new.recorder c.import.result c.import.ensures.answer).1 in
    let room = ap (λ (r : Recorded _). r.room) c.recorder.ensures.value in
    let same = ap (λ (x : Pressed). x.plan.b) c.count.ensures ∙ ap (λ (q : Sizes). q.b) c.requires.at.plan in
    omega (arith, keeps, room, same)

pub returns-clause-log : goal.returns-clause-log
returns-clause-log g c =
    subst (λ (r : Recorded _). GoesOnReading r.log c.import.new.recorder.log) c.recorder.ensures.value
    (import_logs g.V.Device.faults c.count.new.self.plan c.count.new.self.run c.args.attempt c.args.target c.count.new.self.counts c.count.new.self.queue c.recorder.result.now c.import.new.recorder c.import.result c.import.ensures.answer)

pub returns-clause-failed : goal.returns-clause-failed
returns-clause-failed g c =
    subst (λ (r : Recorded _). NoneFailed r.log → FailedByHalt c.import.result c.import.new.recorder.log) c.recorder.ensures.value
    (import_failed g.V.Device.faults c.count.new.self.plan c.count.new.self.run c.args.attempt c.args.target c.count.new.self.counts c.count.new.self.queue c.recorder.result.now c.import.new.recorder c.import.result c.import.ensures.answer)

pub returns-clause-gives : goal.returns-clause-gives
returns-clause-gives g c =
    let f = c.args.floor.now in
    let w = c.count.new.self in
    let plan_is : w.plan ≡ f.plan = ap (λ (x : Pressed). x.plan) c.count.ensures ∙ c.requires.at.plan in
    let run_is : w.run ≡ f.run = ap (λ (x : Pressed). x.run) c.count.ensures ∙ c.requires.at.run in
    let queue_is : w.queue ≡ c.args.self.now.queue = ap (λ (x : Pressed). x.queue) c.count.ensures in
    let order = g.C.Coins.order_list c.args.coins.now c.args.attempt c.args.target in
    subst (λ (q : List Item). (chunks : ℕ → List Item) (left : List Item) → IsFaithful f.plan c.import.new.recorder.log → AreStored f.plan f.run c.args.attempt c.args.target f.recorder.log chunks left
    → OnOk c.import.result (c.import.new.self.queue ≡ q ++ held_in (imported_items f.plan chunks left) order)) queue_is
    (subst (λ (r : Recorded _). (chunks : ℕ → List Item) (left : List Item) → IsFaithful f.plan c.import.new.recorder.log → AreStored f.plan f.run c.args.attempt c.args.target r.log chunks left
    → OnOk c.import.result (c.import.new.self.queue ≡ w.queue ++ held_in (imported_items f.plan chunks left) order)) c.recorder.ensures.value
    (subst (λ (k : Keys). (chunks : ℕ → List Item) (left : List Item) → IsFaithful f.plan c.import.new.recorder.log → AreStored f.plan k c.args.attempt c.args.target c.recorder.result.now.log chunks left
    → OnOk c.import.result (c.import.new.self.queue ≡ w.queue ++ held_in (imported_items f.plan chunks left) order)) run_is
    (subst (λ (p : Sizes). (chunks : ℕ → List Item) (left : List Item) → IsFaithful p c.import.new.recorder.log → AreStored p w.run c.args.attempt c.args.target c.recorder.result.now.log chunks left
    → OnOk c.import.result (c.import.new.self.queue ≡ w.queue ++ held_in (imported_items p chunks left) order)) plan_is c.import.ensures.gives)))

pub returns-clause-total : goal.returns-clause-total
returns-clause-total g c =
    import_totals g.V.Device.faults c.count.new.self.plan c.count.new.self.run c.args.attempt c.args.target c.count.new.self.counts c.count.new.self.queue c.recorder.result.now c.import.new.recorder c.import.result c.import.ensures.answer
    ∙ ap (λ (r : Recorded _). length r.trace + r.room) c.recorder.ensures.value

pub returns-clause-keeps : goal.returns-clause-keeps
returns-clause-keeps g c = λ record_of planned orders holds faithful waits.
    let f = c.args.floor.now in
    let w = c.count.new.self in
    let i = c.args.target in
    let a = c.args.attempt in
    let d = g.G.Told.draws a in
    let h = turns_made f in
    let plan_is : w.plan ≡ f.plan = ap (λ (x : Pressed). x.plan) c.count.ensures ∙ c.requires.at.plan in
    let run_is : w.run ≡ f.run = ap (λ (x : Pressed). x.run) c.count.ensures ∙ c.requires.at.run in
    let parts_are : w.counts ≡ parts_counted f.plan f.counts c.args.self.now.tails i =
    ap (λ (x : Pressed). x.counts) c.count.ensures ∙ ap (λ (q : Sizes). parts_counted q f.counts c.args.self.now.tails i) c.requires.at.plan in
    let queue_is : w.queue ≡ c.args.self.now.queue = ap (λ (x : Pressed). x.queue) c.count.ensures in
    let same : c.recorder.result.now ≡ f.recorder = c.recorder.ensures.value in
    import_kept f.plan f.run d h f.counts c.args.self.now.tails a c.requires.at.counted record_of i c.requires.target
    g.V.Device.faults f.recorder c.import.new.recorder c.args.output c.args.self.now.queue c.import.new.self.queue (g.C.Coins.order_list c.args.coins.now a i) c.import.result
    planned (omega arith) c.requires.at.put (orders i c.requires.target) holds faithful
    (import_answer_is g.V.Device.faults a i w f.plan f.run (parts_counted f.plan f.counts c.args.self.now.tails i) c.args.self.now.queue plan_is run_is parts_are queue_is
    c.recorder.result.now f.recorder c.import.new.recorder c.import.result same c.import.ensures.answer)
    (returns-clause-gives g c (λ j. map record_of (chunk f.plan d (order f.plan.b h) (exchange_of (order f.plan.b h) j) i)) (map record_of (tail f.plan d (order f.plan.b h) i)) faithful
    (are_stored f.plan f.run d h f.counts c.args.self.now.tails a c.requires.at.counted record_of i c.requires.target f.recorder.log holds))
    waits

pub returns-clause-reads : goal.returns-clause-reads
returns-clause-reads g c = λ made gave.
    let f = c.args.floor.now in
    let w = c.count.new.self in
    let i = c.args.target in
    let a = c.args.attempt in
    let parts = parts_counted f.plan f.counts c.args.self.now.tails i in
    let plan_is : w.plan ≡ f.plan = ap (λ (x : Pressed). x.plan) c.count.ensures ∙ c.requires.at.plan in
    let run_is : w.run ≡ f.run = ap (λ (x : Pressed). x.run) c.count.ensures ∙ c.requires.at.run in
    let parts_are : w.counts ≡ parts = ap (λ (x : Pressed). x.counts) c.count.ensures ∙ ap (λ (q : Sizes). parts_counted q f.counts c.args.self.now.tails i) c.requires.at.plan in
    let queue_is : w.queue ≡ c.args.self.now.queue = ap (λ (x : Pressed). x.queue) c.count.ensures in
    import_gave f.plan f.run g.G.Told.draws (attempt_turns f) a (turns_made f) f.counts c.args.self.now.tails c.requires.at.counted i c.requires.target made
    g.V.Device.faults c.args.self.now.queue f.recorder c.import.new.recorder gave c.import.result
    (import_answer_is g.V.Device.faults a i w f.plan f.run parts c.args.self.now.queue plan_is run_is parts_are queue_is
    c.recorder.result.now f.recorder c.import.new.recorder c.import.result c.recorder.ensures.value c.import.ensures.answer)
