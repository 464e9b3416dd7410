-- All chunks are written where the turns have not stopped, and the history has the turns. The input stays, and the output
-- has its records.
use Rattle.std.proofs.Common.{◌≡◌, ℕ, List, Option, map, sym, ap, ◌∙◌, subst}
use Rattle.esa_device.specs.Logs.{Carried, IsFaithful}
use Rattle.esa_envelope.specs.declared.keys.Keys.{Keys}
use Rattle.esa_params.specs.Sizes.{Sizes}
use Rattle.esa_params.specs.Slots.{item_length}
use Rattle.esa_spec.specs.Completion.{full}
use Rattle.esa_spec.specs.declared.event.Verdict.TheVariants.{Good}
use Rattle.esa_floor.specs.Keeping.{HasInput}
use Rattle.esa_floor.specs.Parts.{Parts}
use Rattle.esa_floor.specs.Standing.{attempt_begun, turns_made}
use Rattle.esa_floor.specs.Written.{AreItems, FailedByStop, GaveItsOwn, ReadsGave}
use Rattle.esa_floor.specs.declared.floor.Roots.{Roots}
use Rattle.esa_floor.specs.declared.turn.Stop.{Stop}
use Rattle.esa_press.specs.Contents.{AreOutputsStored}
use Rattle.esa_shuffle.proofs.Contents.{faithful_before, input_stays}
use Rattle.esa_shuffle.proofs.Taking.{adds, all_written, good_turns, members_on, stops_short}
use Rattle.esa_shuffle.proofs.attempt.make_attempt.Goals as goal

pub finish-requires-clause-all : goal.finish-requires-clause-all
finish-requires-clause-all g c =
    all_written g.V.Device.faults g.G.Told.plan g.G.Told.draws c.args.floor.now c.begin.new.floor c.replay.new.floor c.args.attempt c.args.turns.now
    c.begin.ensures.begun c.begin.ensures.stands
    c.replay.ensures.replayed c.replay.ensures.origin c.replay.ensures.stands c.replay.ensures.attempt c.requires.some c.requires.numbers

pub returns-clause-history : goal.returns-clause-history
returns-clause-history g c =
    adds g.V.Device.faults g.G.Told.plan g.G.Told.draws c.args.floor.now c.begin.new.floor c.replay.new.floor c.args.attempt c.args.turns.now
    c.begin.ensures.begun c.begin.ensures.stands
    c.replay.ensures.replayed c.replay.ensures.origin c.replay.ensures.stands c.replay.ensures.attempt c.requires.some c.requires.numbers
    c.finish.new.floor (ap (λ (x : Parts _). x.plan) c.finish.ensures.floor)
    (ap (λ (x : Parts _). x.history) c.finish.ensures.floor) c.finish.result c.finish.ensures.ends

pub returns-clause-behind : goal.returns-clause-behind
returns-clause-behind g c =
    let now = c.replay.new.floor in
    let last = c.finish.new.floor in
    stops_short g.V.Device.faults g.G.Told.plan g.G.Told.draws c.args.floor.now c.begin.new.floor c.replay.new.floor c.args.attempt c.args.turns.now
    c.begin.ensures.begun c.begin.ensures.stands
    c.replay.ensures.replayed c.replay.ensures.origin c.replay.ensures.stands c.replay.ensures.attempt c.requires.some c.requires.numbers
    last (ap (λ (x : Parts _). x.plan) c.finish.ensures.floor)
    (ap (λ (x : Parts _). x.history) c.finish.ensures.floor) c.finish.result
    c.finish.ensures.stopped
    (λ there. ap (λ (x : Parts _). x.recorder) (c.finish.ensures.still there))
    (λ there. let at = c.replay.ensures.stops there in (at.0, at.1))
    c.finish.ensures.behind

pub returns-clause-members : goal.returns-clause-members
returns-clause-members g c =
    members_on g.G.Told.draws g.C.Coins.target_list c.replay.new.floor c.finish.new.floor c.replay.new.workers
    c.replay.ensures.posts c.finish.ensures.floor

pub returns-clause-input : goal.returns-clause-input
returns-clause-input g c = λ record_of faithful input.
    let f = c.args.floor.now in
    let begun = c.begin.new.floor in
    let last = c.finish.new.floor in
    let is = c.begin.ensures.begun in
    let n = attempt_begun begun in
    let before = faithful_before f.plan c.replay.new.floor.recorder.log last.recorder.log
    c.finish.ensures.log faithful in
    let stays = input_stays begun c.replay.new.floor (g.G.Told.draws n) n _ record_of c.replay.ensures.origin
    (subst (λ (x : Parts _). map (λ (entry : Carried). entry.access) x.recorder.log ≡ x.recorder.trace) (sym is) c.keeps_its_log.ensures) c.keeps_its_log-2.ensures
    c.replay.ensures.replayed.trace c.replay.ensures.log (subst (λ (q : Sizes). IsFaithful q c.replay.new.floor.recorder.log) (sym (ap (λ (x : Parts _). x.plan) is)) before)
    (subst (λ (x : Parts _). HasInput x record_of) (sym is) input) in
    c.finish.ensures.input record_of
    (subst (λ (q : Sizes). IsFaithful q last.recorder.log)
    (sym (ap (λ (r : Roots). r.plan) c.replay.ensures.origin ∙ ap (λ (x : Parts _). x.plan) is)) faithful)
    stays

pub returns-clause-outputs : goal.returns-clause-outputs
returns-clause-outputs g c = λ record_of items faithful input good.
    let f = c.args.floor.now in
    let a = c.args.attempt in
    let ds = g.G.Told.draws in
    let begun = c.begin.new.floor in
    let now = c.replay.new.floor in
    let last = c.finish.new.floor in
    let is = c.begin.ensures.begun in
    let n = attempt_begun begun in
    let same_plan = ap (λ (r : Roots). r.plan) c.replay.ensures.origin ∙ ap (λ (x : Parts _). x.plan) is in
    let same_run = ap (λ (r : Roots). r.run) c.replay.ensures.origin ∙ ap (λ (x : Parts _). x.run) is in
    let before = faithful_before f.plan c.replay.new.floor.recorder.log last.recorder.log
    c.finish.ensures.log faithful in
    let stays = input_stays begun c.replay.new.floor (ds n) n _ record_of c.replay.ensures.origin
    (subst (λ (x : Parts _). map (λ (entry : Carried). entry.access) x.recorder.log ≡ x.recorder.trace) (sym is) c.keeps_its_log.ensures) c.keeps_its_log-2.ensures
    c.replay.ensures.replayed.trace c.replay.ensures.log (subst (λ (q : Sizes). IsFaithful q c.replay.new.floor.recorder.log) (sym (ap (λ (x : Parts _). x.plan) is)) before)
    (subst (λ (x : Parts _). HasInput x record_of) (sym is) input) in
    let turns = sym (ap (λ (x : Parts _). turns_made x) c.finish.ensures.floor)
    ∙ good_turns g.V.Device.faults g.G.Told.plan ds f begun c.replay.new.floor a c.args.turns.now is c.begin.ensures.stands
    c.replay.ensures.replayed c.replay.ensures.origin c.replay.ensures.stands c.replay.ensures.attempt c.requires.some c.requires.numbers
    last (ap (λ (x : Parts _). x.plan) c.finish.ensures.floor)
    (ap (λ (x : Parts _). x.history) c.finish.ensures.floor) Good c.finish.result c.finish.ensures.ends good in
    subst (λ (q : Sizes). AreOutputsStored q f.run (ds a) (full f.plan (ds a) c.args.turns.now) a record_of q.b last.recorder.log) same_plan
    (subst (λ (k : Keys). AreOutputsStored now.plan k (ds a) (full f.plan (ds a) c.args.turns.now) a record_of now.plan.b last.recorder.log) same_run
    (subst (λ (h : List ℕ). AreOutputsStored now.plan now.run (ds a) h a record_of now.plan.b last.recorder.log) turns
    (c.finish.ensures.outputs record_of (subst (λ (q : Sizes). AreItems (item_length q.form) record_of) (sym same_plan) items)
    (c.replay.ensures.queues c.begin.ensures.hold c.begin.ensures.queues)
    (c.replay.ensures.slots c.begin.ensures.hold c.begin.ensures.queues c.begin.ensures.slots)
    (subst (λ (q : Sizes). IsFaithful q last.recorder.log) (sym same_plan) faithful)
    stays good)))

pub returns-clause-took : goal.returns-clause-took
returns-clause-took g c = λ record_of items took.
    let ds = g.G.Told.draws in
    let a = c.args.attempt in
    let is = c.begin.ensures.begun in
    let same_plan = ap (λ (r : Roots). r.plan) c.replay.ensures.origin ∙ ap (λ (x : Parts _). x.plan) is in
    let begun = c.begin.ensures.took record_of took in
    c.finish.ensures.took record_of (subst (λ (q : Sizes). AreItems (item_length q.form) record_of) (sym same_plan) items)
    (c.replay.ensures.queues c.begin.ensures.hold c.begin.ensures.queues)
    (c.replay.ensures.slots c.begin.ensures.hold c.begin.ensures.queues c.begin.ensures.slots)
    (c.replay.ensures.took record_of c.begin.ensures.hold c.begin.ensures.queues begun)

pub returns-clause-failed : goal.returns-clause-failed
returns-clause-failed g c = λ none.
    let is = c.begin.ensures.begun in
    c.finish.ensures.failed (c.replay.ensures.failed (subst (λ (x : Parts _). FailedByStop x.stop x.recorder.log) (sym is) none))

pub returns-clause-reads : goal.returns-clause-reads
returns-clause-reads g c = λ gave.
    let ds = g.G.Told.draws in
    let now = c.begin.new.floor in
    let is = c.begin.ensures.begun in
    let begun = c.begin.ensures.reads gave in
    c.finish.ensures.reads
    (c.replay.ensures.reads (subst (λ (s : Option Stop). ReadsGave (GaveItsOwn ds now) s now.recorder.log) (sym (ap (λ (x : Parts _). x.stop) is)) begun))
