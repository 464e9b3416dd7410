-- The rest of an attempt, on the floor that the crew has distributed.
use Rattle.std.proofs.Common.{◌≢◌, ℕ, List, None, sym, ap, ◌∙◌, subst}
use Rattle.std.specs.Prelude.{OnOk}
use Rattle.esa_device.specs.Logs.{IsFaithful}
use Rattle.esa_envelope.specs.declared.keys.Keys.{Keys}
use Rattle.esa_ending.proofs.FrontLaws.{onward}
use Rattle.esa_floor.specs.Parts.{Parts}
use Rattle.esa_floor.specs.Standing.{turns_made}
use Rattle.esa_floor.specs.Written.{AreItems}
use Rattle.esa_parallel.specs.Crews.{IsDoneByAll}
use Rattle.esa_floor.specs.declared.floor.Roots.{Roots}
use Rattle.esa_floor.proofs.Doing.{queues_done, slots_done}
use Rattle.esa_floor.proofs.Faulting.{failed_by_stop, goes_on_in, reads_by_stop}
use Rattle.esa_floor.proofs.Resting.{working}
use Rattle.esa_params.specs.Sizes.{Sizes}
use Rattle.esa_params.specs.Slots.{item_length}
use Rattle.esa_press.specs.Contents.{AreOrders, AreOutputsStored}
use Rattle.esa_shuffle.proofs.Contents.{faithful_before}
use Rattle.esa_workers.proofs.Turning.{there}
use Rattle.esa_parallel.proofs.Attempting.{done_by_all, has_floor_still, longer_still, rests_still, turns_of_all_still, turns_still}
use Rattle.esa_parallel.proofs.attempt.make_attempt.Goals as goal

pub finish-end-requires-clause-plan : goal.finish-end-requires-clause-plan
finish-end-requires-clause-plan g c = c.requires.plan ∙ sym c.distribute-held.ensures.kept.stands.of.plan

pub finish-end-requires-clause-run : goal.finish-end-requires-clause-run
finish-end-requires-clause-run g c =
    c.requires.run ∙ ap (λ (r : Roots). r.run) (c.requires.floor.origin ∙ sym c.distribute-held.ensures.floor.origin)

pub finish-end-requires-clause-coins : goal.finish-end-requires-clause-coins
finish-end-requires-clause-coins g c = c.requires.coins ∙ sym c.distribute-held.ensures.kept.stands.of.plan

pub finish-end-requires-clause-orders : goal.finish-end-requires-clause-orders
finish-end-requires-clause-orders g c =
    subst (λ (q : Sizes). AreOrders q (g.G.Told.draws c.args.attempt) (g.C.Coins.order_list c.args.coins.now c.args.attempt)) (sym c.distribute-held.ensures.kept.stands.of.plan) c.requires.orders

pub returns-clause-history : goal.returns-clause-history
returns-clause-history g c =
    longer_still g.G.Told.plan c.distribute-held.result.value c.finish-end.new.floor c.finish-end.ensures.floor c.args.held.value.history c.distribute-held.ensures.history

pub returns-clause-turns : goal.returns-clause-turns
returns-clause-turns g c =
    turns_of_all_still g.G.Told.plan c.distribute-held.result.value c.finish-end.new.floor c.finish-end.ensures.floor c.distribute-held.ensures.turns

pub returns-clause-outcome : goal.returns-clause-outcome
returns-clause-outcome g c =
    let f = c.distribute-held.result.value in
    let some : f.attempt ≢ None = λ none. there c.args.attempt (sym c.distribute-held.ensures.attempt ∙ none) in
    ap (λ (x : Parts _). x.outcome) c.finish-end.ensures.floor ∙ (working g.V.Device.faults g.G.Told.draws f f.outcome f.attempt c.distribute-held.ensures.kept.stands.state some).0

pub returns-clause-floor : goal.returns-clause-floor
returns-clause-floor g c =
    has_floor_still g.G.Told.plan c.distribute-held.result.value c.finish-end.new.floor c.finish-end.ensures.floor c.args.turnstile.now c.distribute-held.new.owner
    c.finish-end.ensures.log c.distribute-held.ensures.floor

pub returns-clause-log : goal.returns-clause-log
returns-clause-log g c =
    onward c.args.held.value.recorder.log c.distribute-held.result.value.recorder.log c.finish-end.new.floor.recorder.log c.distribute-held.ensures.log c.finish-end.ensures.log

pub returns-clause-input : goal.returns-clause-input
returns-clause-input g c = λ record_of faithful input.
    let mid = c.distribute-held.result.value in
    let last = c.finish-end.new.floor in
    c.finish-end.ensures.input record_of (subst (λ (q : Sizes). IsFaithful q last.recorder.log) (sym c.distribute-held.ensures.kept.stands.of.plan) faithful)
    (c.distribute-held.ensures.input record_of (faithful_before g.G.Told.plan mid.recorder.log last.recorder.log c.finish-end.ensures.log faithful) input)

pub returns-clause-outputs : goal.returns-clause-outputs
returns-clause-outputs g c = λ record_of items faithful input good.
    let p = g.G.Told.plan in
    let d = g.G.Told.draws c.args.attempt in
    let a = c.args.attempt in
    let mid = c.distribute-held.result.value in
    let last = c.finish-end.new.floor in
    let plan = c.distribute-held.ensures.kept.stands.of.plan in
    let run = ap (λ (r : Roots). r.run) (c.distribute-held.ensures.floor.origin ∙ sym c.requires.floor.origin) in
    let turns = sym (turns_still p mid last c.finish-end.ensures.floor) in
    subst (λ (h : List ℕ). AreOutputsStored p c.args.held.value.run d h a record_of p.b last.recorder.log) turns
    (subst (λ (k : Keys). AreOutputsStored p k d (turns_made mid) a record_of p.b last.recorder.log) run
    (subst (λ (q : Sizes). AreOutputsStored q mid.run d (turns_made mid) a record_of q.b last.recorder.log) plan
    (c.finish-end.ensures.outputs record_of (subst (λ (q : Sizes). AreItems (item_length q.form) record_of) (sym plan) items)
    (queues_done g.V.Device.faults g.G.Told.draws mid c.distribute-held.ensures.kept.done) (slots_done g.V.Device.faults g.G.Told.draws mid c.distribute-held.ensures.kept.done)
    (subst (λ (q : Sizes). IsFaithful q last.recorder.log) (sym plan) faithful)
    (c.distribute-held.ensures.input record_of (faithful_before p mid.recorder.log last.recorder.log c.finish-end.ensures.log faithful) input) good)))

pub returns-clause-posts : goal.returns-clause-posts
returns-clause-posts g c = λ k d inside.
    rests_still g.G.Told.plan c.distribute-held.result.value c.finish-end.new.floor c.finish-end.ensures.floor g.V.Device.faults g.G.Told.draws g.C.Coins.target_list c.args.turnstile.now k _
    (c.distribute-held.ensures.posts k d inside)

pub returns-clause-done : goal.returns-clause-done
returns-clause-done g c =
    let p = g.G.Told.plan in
    let ds = g.G.Told.draws in
    let a = c.args.attempt in
    let mid = c.distribute-held.result.value in
    let there = c.distribute-held.ensures in
    subst (λ (h : List ℕ). OnOk c.finish-end.result (IsDoneByAll p (ds a) h)) (sym (turns_still p mid c.finish-end.new.floor c.finish-end.ensures.floor))
    (done_by_all g.V.Device.faults p ds mid a there.kept.stands there.attempt there.floor.room c.finish-end.result c.finish-end.ensures.stopped there.turns)

pub returns-clause-took : goal.returns-clause-took
returns-clause-took g c = λ record_of items.
    let kept = c.distribute-held.ensures.kept in
    let mid = c.distribute-held.result.value in
    let faults = g.V.Device.faults in
    let ds = g.G.Told.draws in
    c.finish-end.ensures.took record_of (subst (λ (q : Sizes). AreItems (item_length q.form) record_of) (sym kept.stands.of.plan) items)
    (queues_done faults ds mid kept.done) (slots_done faults ds mid kept.done) (kept.took record_of items)

pub returns-clause-failed : goal.returns-clause-failed
returns-clause-failed g c =
    let mid = c.distribute-held.result.value in
    let kept = c.distribute-held.ensures.kept in
    let some : mid.attempt ≢ None = λ none. there c.args.attempt (sym c.distribute-held.ensures.attempt ∙ none) in
    c.finish-end.ensures.failed
    (failed_by_stop g.G.Told.draws mid (goes_on_in g.V.Device.faults g.G.Told.plan g.G.Told.draws mid kept.stands some) kept.failed)

pub returns-clause-reads : goal.returns-clause-reads
returns-clause-reads g c =
    let mid = c.distribute-held.result.value in
    let kept = c.distribute-held.ensures.kept in
    let some : mid.attempt ≢ None = λ none. there c.args.attempt (sym c.distribute-held.ensures.attempt ∙ none) in
    c.finish-end.ensures.reads
    (reads_by_stop g.G.Told.draws mid (goes_on_in g.V.Device.faults g.G.Told.plan g.G.Told.draws mid kept.stands some) kept.reads)
