-- The mark does not fall, and other workers stand as before.
use Rattle.std.proofs.Common.{◌≡◌, ◌≢◌, ℕ, ◌∷◌, ◌++◌, List, [], None, refl, sym, ap, ◌∙◌, subst, arith}
use Rattle.esa_spec.specs.Turns.{next}
use Rattle.esa_floor.specs.Keeping.{HoldsAfter, HoldsChunks, HoldsRecords, QueuesHold, QueuesHoldAfter, SlotsHold, SlotsHoldAfter, StopsAfter}
use Rattle.esa_floor.specs.Parts.{Parts, with_entry}
use Rattle.esa_floor.specs.Standing.{attempt_begun, turns_made}
use Rattle.esa_floor.specs.Working.{Working}
use Rattle.esa_floor.specs.Written.{EachTookItsBlock, FailedAtItsEnd, FailedByStop, GaveUpToItsEnd, ReadsGaveTheirBlocks}
use Rattle.esa_floor.proofs.Chunking.{chunks_on, others_on as others_hold_on}
use Rattle.esa_floor.proofs.Doing.{calm_on, done_turn}
use Rattle.esa_floor.proofs.Failing.{failed_turn}
use Rattle.esa_floor.proofs.Faulting.{fails_turn, gives_turn}
use Rattle.esa_floor.proofs.Giving.{gave_turn}
use Rattle.esa_floor.proofs.Queueing.{held_on, queues_on}
use Rattle.esa_floor.proofs.Resting.{begun_on, mark_grows, others_on}
use Rattle.esa_floor.proofs.Stopping.{holds_after, holds_still, queues_after, slots_after, stops_on}
use Rattle.esa_floor.proofs.Storing.{slots_on}
use Rattle.esa_floor.proofs.Writing.{took_turn}
use Rattle.esa_floor.proofs.floor.Floor.turn.Goals as goal
use Rattle.esa_floor.proofs.floor.Floor.turn.Given as given

-- the worker isn't the owner
apart : (g : given.Over) (c : goal.After-push_reserved g) → c.args.worker.now.number ≢ c.args.self.now.plan.workers
apart g c = λ same.
    let few = c.requires.of.number in
    absurd (omega (arith, same, few))

-- the history has the worker's number at its end
longer : (g : given.Over) (c : goal.After-push_reserved g) → c.push_reserved.new.self.items ≡ c.args.self.now.history ++ c.args.worker.now.number ∷ []
longer g c =
    let f = c.args.self.now in
    let turn = c.take-turn.ensures in
    c.push_reserved.ensures.items ∙ ap (λ (xs : List ℕ). xs ++ c.number.result ∷ []) (ap (λ (x : Parts _). x.history) (c.self.view_is ∙ turn.kept))
    ∙ ap (λ (k : ℕ). f.history ++ k ∷ []) (c.number.ensures ∙ ap (λ (x : Working _). x.number) turn.moved)

-- the floor behind the turn
abbrev now : (g : given.Over) (c : goal.After-push_reserved g) → Parts g.row.V.Denot
now g c =
    let i = c.self.inside in
    record {
      plan = i.exchanger.plan;
      outer = i.outer;
      run = i.run;
      recorder = i.recorder;
      faults = i.faults;
      history = c.push_reserved.new.self.items;
      room = c.push_reserved.new.self.cap;
      stash = i.exchanger.stash;
      counts = i.exchanger.counts;
      counted = record { claims = i.claims; writes = i.writes };
      attempt = i.attempt;
      stop = i.stop;
      outcome = i.outcome;
    }

-- it is that of the act, with the longer history
is : (g : given.Over) (c : goal.After-push_reserved g)
    → record c.take-turn.new.self { history = c.args.self.now.history ++ c.args.worker.now.number ∷ []; room = c.push_reserved.new.self.cap } ≡ now g c
is g c =
    let new = c.take-turn.new.self in
    let room = c.push_reserved.new.self.cap in
    ap (λ (xs : List ℕ). record new { history = xs; room = room }) (sym (longer g c))
    ∙ ap (λ (x : Parts _). record x { history = c.push_reserved.new.self.items; room = room }) (sym c.self.view_is)

pub returns-clause-mark : goal.returns-clause-mark
returns-clause-mark g c =
    let f = c.args.self.now in
    let n = c.args.worker.now.number in
    let kept = c.self.view_is ∙ c.take-turn.ensures.kept in
    mark_grows f (now g c)
    (begun_on g.V.Device.faults g.G.Told.draws f n (apart g c) (now g c) (ap (λ (x : Parts _). x.plan) kept)
    (longer g c))
    (ap (λ (x : Parts _). x.outcome) kept)
    (λ some. ap (λ (x : Parts _). x.stop) (c.self.view_is ∙ c.take-turn.ensures.later some))

pub returns-clause-others : goal.returns-clause-others
returns-clause-others g c = λ other other_apart stands.
    let f = c.args.self.now in
    let n = c.args.worker.now.number in
    let kept = c.self.view_is ∙ c.take-turn.ensures.kept in
    others_on g.V.Device.faults g.G.Told.draws f n (apart g c) (now g c) (ap (λ (x : Parts _). x.plan) kept)
    (longer g c)
    (ap (λ (x : Parts _). x.attempt) kept)
    (λ some. ap (λ (x : Parts _). x.stop) (c.self.view_is ∙ c.take-turn.ensures.later some))
    other other_apart stands

pub returns-clause-holds : goal.returns-clause-holds
returns-clause-holds g c = subst (λ (x : Parts _). HoldsRecords x c.take-turn.new.worker) (sym c.self.view_is) c.take-turn.ensures.holds

pub returns-clause-others_hold : goal.returns-clause-others_hold
returns-clause-others_hold g c = λ other holds.
    let f = c.args.self.now in
    let w = c.args.worker.now in
    let turn = c.take-turn.ensures in
    let new = c.take-turn.new.self in
    subst (λ (x : Parts _). HoldsRecords x other) (sym c.self.view_is)
    (λ record_of. held_on f new w.run (attempt_begun f) (next f.plan.b (turns_made f) w.number) w.buffers.chunks
    turn.kept c.requires.of.run turn.idle turn.later turn.log record_of other holds)

pub returns-clause-queues : goal.returns-clause-queues
returns-clause-queues g c = λ holds queues.
    let f = c.args.self.now in
    let w = c.args.worker.now in
    let worker = apart g c in
    let turn = c.take-turn.ensures in
    let new = c.take-turn.new.self in
    let room = c.push_reserved.new.self.cap in
    subst (λ (x : Parts _). QueuesHold g.G.Told.draws x)
    (is g c)
    (λ record_of. queues_on f new w.run (attempt_begun f) (next f.plan.b (turns_made f) w.number) w.buffers.chunks
    turn.kept c.requires.of.run turn.idle turn.later turn.log record_of
    g.V.Device.faults g.G.Told.draws (g.C.Coins.target_list w.coins) w.number room worker w c.requires.stands.state c.requires.of c.requires.worker
    turn.deals holds queues)

pub returns-clause-chunks : goal.returns-clause-chunks
returns-clause-chunks g c = λ holds queues before.
    let f = c.args.self.now in
    let w = c.args.worker.now in
    let v = c.take-turn.new.worker in
    let worker = apart g c in
    let turn = c.take-turn.ensures in
    let new = c.take-turn.new.self in
    let room = c.push_reserved.new.self.cap in
    subst (λ (x : Parts _). HoldsChunks g.G.Told.draws x v)
    (is g c)
    (λ record_of. chunks_on f new w.run (attempt_begun f) (next f.plan.b (turns_made f) w.number) w.buffers.chunks
    turn.kept c.requires.of.run turn.idle turn.later turn.log record_of g.V.Device.faults g.G.Told.draws w.number room worker
    (g.C.Coins.target_list w.coins) w v c.requires.stands.state c.requires.of c.requires.worker turn.deals turn.leaves holds queues before)

pub returns-clause-others_chunks : goal.returns-clause-others_chunks
returns-clause-others_chunks g c = λ other before.
    let f = c.args.self.now in
    let w = c.args.worker.now in
    let worker = apart g c in
    let turn = c.take-turn.ensures in
    let new = c.take-turn.new.self in
    let room = c.push_reserved.new.self.cap in
    subst (λ (x : Parts _). HoldsChunks g.G.Told.draws x other)
    (is g c)
    (λ record_of. others_hold_on f new w.run (attempt_begun f) (next f.plan.b (turns_made f) w.number) w.buffers.chunks
    turn.kept c.requires.of.run turn.idle turn.later turn.log record_of g.V.Device.faults g.G.Told.draws w.number room worker other before)

pub returns-clause-slots : goal.returns-clause-slots
returns-clause-slots g c = λ holds before.
    let f = c.args.self.now in
    let w = c.args.worker.now in
    let v = c.take-turn.new.worker in
    let worker = apart g c in
    let turn = c.take-turn.ensures in
    let new = c.take-turn.new.self in
    let room = c.push_reserved.new.self.cap in
    subst (λ (x : Parts _). SlotsHold g.G.Told.draws x) (is g c)
    (λ record_of. slots_on f new w.number room w v g.V.Device.faults g.G.Told.draws worker turn.kept c.requires.of.run turn.idle turn.later turn.log
    turn.leaves holds before record_of)

pub returns-clause-took : goal.returns-clause-took
returns-clause-took g c = λ record_of holds before.
    let f = c.args.self.now in
    let w = c.args.worker.now in
    let worker = apart g c in
    let turn = c.take-turn.ensures in
    let new = c.take-turn.new.self in
    let room = c.push_reserved.new.self.cap in
    subst (λ (x : Parts _). EachTookItsBlock g.G.Told.draws record_of x) (is g c)
    (took_turn f new w.number room w g.V.Device.faults g.G.Told.draws worker turn.kept c.requires.of.run refl turn.idle turn.later turn.log
    c.requires.stands.state c.requires.worker holds record_of before)

pub returns-clause-stops : goal.returns-clause-stops
returns-clause-stops g c = λ some runs stopped.
    let f = c.args.self.now in
    let w = c.args.worker.now in
    let worker = apart g c in
    let turn = c.take-turn.ensures in
    let new = c.take-turn.new.self in
    let room = c.push_reserved.new.self.cap in
    subst (λ (x : Parts _). StopsAfter g.V.Device.faults g.G.Told.draws (turns_made f) x) (is g c)
    (stops_on f new w.number room g.V.Device.faults g.G.Told.draws worker turn.kept (turn.stops some runs (λ none. stopped (ap (λ (x : Parts _). x.stop) c.self.view_is ∙ none))))

pub returns-clause-queues_before : goal.returns-clause-queues_before
returns-clause-queues_before g c = λ some runs stopped queues.
    let f = c.args.self.now in
    let w = c.args.worker.now in
    let worker = apart g c in
    let turn = c.take-turn.ensures in
    let new = c.take-turn.new.self in
    let room = c.push_reserved.new.self.cap in
    let halted : new.stop ≢ None = λ none. stopped (ap (λ (x : Parts _). x.stop) c.self.view_is ∙ none) in
    subst (λ (x : Parts _). QueuesHoldAfter g.G.Told.draws (turns_made f) x) (is g c)
    (λ record_of. queues_after f new w.number room w g.V.Device.faults g.G.Told.draws worker turn.kept c.requires.of.run turn.idle turn.later turn.log
    (turn.failed halted) some runs queues record_of)

pub returns-clause-slots_before : goal.returns-clause-slots_before
returns-clause-slots_before g c = λ some runs stopped slots.
    let f = c.args.self.now in
    let w = c.args.worker.now in
    let worker = apart g c in
    let turn = c.take-turn.ensures in
    let new = c.take-turn.new.self in
    let room = c.push_reserved.new.self.cap in
    subst (λ (x : Parts _). SlotsHoldAfter g.G.Told.draws (turns_made f) x) (is g c)
    (λ record_of. slots_after f new w.number room w g.V.Device.faults g.G.Told.draws worker turn.kept c.requires.of.run turn.idle turn.later turn.log
    some runs slots record_of)

pub returns-clause-others_before : goal.returns-clause-others_before
returns-clause-others_before g c = λ other some runs stopped records chunks.
    let f = c.args.self.now in
    let w = c.args.worker.now in
    let worker = apart g c in
    let turn = c.take-turn.ensures in
    let new = c.take-turn.new.self in
    let room = c.push_reserved.new.self.cap in
    subst (λ (x : Parts _). HoldsAfter g.G.Told.draws (turns_made f) x other) (is g c)
    (holds_after f new w.number room w g.V.Device.faults g.G.Told.draws worker turn.kept c.requires.of.run turn.idle turn.later turn.log
    other some runs records chunks)

pub returns-clause-others_still : goal.returns-clause-others_still
returns-clause-others_still g c = λ h other holds.
    let f = c.args.self.now in
    let w = c.args.worker.now in
    let worker = apart g c in
    let turn = c.take-turn.ensures in
    let new = c.take-turn.new.self in
    let room = c.push_reserved.new.self.cap in
    subst (λ (x : Parts _). HoldsAfter g.G.Told.draws h x other) (is g c)
    (holds_still f new w.number room w g.V.Device.faults g.G.Told.draws worker turn.kept c.requires.of.run turn.idle turn.later turn.log h other holds)

pub returns-clause-failed : goal.returns-clause-failed
returns-clause-failed g c =
    let f = c.args.self.now in
    let w = c.args.worker.now in
    let worker = apart g c in
    let turn = c.take-turn.ensures in
    subst (λ (x : Parts _). FailedByStop f.stop f.recorder.log → FailedByStop x.stop x.recorder.log) (sym c.self.view_is)
    (failed_turn g.V.Device.faults g.G.Told.draws f c.take-turn.new.self w.run w.number w.buffers.chunks worker turn.kept turn.idle turn.later turn.log turn.stops)

pub returns-clause-reads : goal.returns-clause-reads
returns-clause-reads g c = λ before.
    let f = c.args.self.now in
    let w = c.args.worker.now in
    let worker = apart g c in
    let turn = c.take-turn.ensures in
    let new = c.take-turn.new.self in
    let room = c.push_reserved.new.self.cap in
    subst (λ (x : Parts _). ReadsGaveTheirBlocks g.G.Told.draws x) (is g c)
    (gave_turn f new w.number room w.run w.buffers.chunks g.V.Device.faults g.G.Told.draws worker turn.kept turn.idle turn.later turn.log turn.reads before)

pub returns-clause-done : goal.returns-clause-done
returns-clause-done g c = λ records chunks keeps.
    let f = c.args.self.now in
    let n = c.args.worker.now.number in
    let turn = c.take-turn.ensures in
    let faults = g.V.Device.faults in
    let ds = g.G.Told.draws in
    let new = c.take-turn.new.self in
    let room = c.push_reserved.new.self.cap in
    done_turn faults ds f (now g c) n room (apart g c)
    (subst (λ (x : Parts _). x.attempt ≡ f.attempt) (is g c) (ap (λ (x : Parts _). x.attempt) turn.kept))
    (subst (λ (x : Parts _). x.attempt ≢ None → x.stop ≡ None → faults x.recorder.device ≡ x.faults) (is g c)
    (calm_on faults ds (with_entry new n) g.G.Told.plan turn.stands))
    (subst (λ (x : Parts _). f.stop ≢ None → x ≡ record f { history = f.history ++ n ∷ []; room = room }) (is g c)
    (λ stopped. ap (λ (x : Parts _). record x { history = f.history ++ n ∷ []; room = room }) (turn.later stopped)))
    (returns-clause-queues g c records) (returns-clause-slots g c chunks) (returns-clause-stops g c) (returns-clause-queues_before g c)
    (returns-clause-slots_before g c) keeps

pub returns-clause-failed_at_end : goal.returns-clause-failed_at_end
returns-clause-failed_at_end g c =
    let f = c.args.self.now in
    let w = c.args.worker.now in
    let turn = c.take-turn.ensures in
    subst (λ (x : Parts _). FailedAtItsEnd f → FailedAtItsEnd x) (is g c)
    (fails_turn g.V.Device.faults g.G.Told.draws f c.take-turn.new.self w.run w.number w.buffers.chunks (apart g c) turn.kept turn.idle turn.later turn.log
    c.requires.stands.state turn.stops)

pub returns-clause-reads_up_to_end : goal.returns-clause-reads_up_to_end
returns-clause-reads_up_to_end g c =
    let f = c.args.self.now in
    let w = c.args.worker.now in
    let turn = c.take-turn.ensures in
    let new = c.take-turn.new.self in
    let room = c.push_reserved.new.self.cap in
    let faults = g.V.Device.faults in
    let ds = g.G.Told.draws in
    subst (λ (x : Parts _). GaveUpToItsEnd ds f → GaveUpToItsEnd ds x) (is g c)
    (gives_turn faults ds f new w.run w.number w.buffers.chunks (apart g c) turn.kept turn.idle turn.later turn.log c.requires.stands.state room
    (gave_turn f new w.number room w.run w.buffers.chunks faults ds (apart g c) turn.kept turn.idle turn.later turn.log turn.reads))
