-- An attempt ends the run, or leads on.
use Rattle.std.proofs.Common.{◌≡◌, ℕ, ◌+◌, ◌<◌, List, length, Result, Ok, Err, sym, ap, ap₂, ◌∙◌, subst, arith}
use Rattle.std.proofs.lemmas.List.{length-map}
use Rattle.std.proofs.lemmas.List.FromFn.{length-range_with_len}
use Rattle.esa_params.specs.Sizes.{Sizes, below}
use Rattle.esa_spec.specs.Completion.{completed, full}
use Rattle.esa_spec.specs.Draws.{Draw}
use Rattle.esa_spec.specs.declared.event.Verdict.{Verdict}
use Rattle.esa_vault.specs.declared.fault.VaultFault.{VaultFault}
use Rattle.esa_ending.specs.Seen.{verdict_in}
use Rattle.esa_floor.specs.declared.floor.Roots.{Roots}
use Rattle.esa_floor.specs.declared.turn.Outcome.{Outcome}
use Rattle.esa_model.specs.Forecast.{handed_in, made, made_in}
use Rattle.esa_floor.specs.Parts.{Parts}
use Rattle.esa_shuffle.specs.Attempts.{AddsAttempt, StopsShort}
use Rattle.esa_shuffle.specs.Runs.{EndWithCut, MayEnd, entries_before, lists_ended}
use Rattle.esa_shuffle.proofs.Running.{IsBefore, cut_ends, ends_cut, ends_good, leads_on, room_for}
use Rattle.esa_shuffle.proofs.Taking.{All-full, workers_at}
use Rattle.std.proofs.Common.{[]}
use Rattle.std.proofs.lemmas.List.FromFn.{get_or-map-range_with_len}
use Rattle.esa_device.specs.Logs.{IsFaithful}
use Rattle.esa_envelope.specs.declared.keys.Keys.{Keys}
use Rattle.esa_params.specs.Slots.{item_length}
use Rattle.esa_ending.specs.Seen.{turns_in}
use Rattle.esa_ending.proofs.FrontLaws.{onward}
use Rattle.esa_floor.specs.Written.{AreItems, GaveItsOwn}
use Rattle.esa_press.specs.Contents.{AreOutputsStored}
use Rattle.esa_shuffle.proofs.Contents.{faithful_before}
use Rattle.esa_shuffle.proofs.Stopped.{good_is}
use Rattle.esa_shuffle.proofs.Giving.{cut_gave}
use Rattle.esa_shuffle.proofs.Taken.{cut_short, cut_failed}
use Rattle.esa_shuffle.specs.Records.{FailedByOutcome, ReadsOf}
use Rattle.esa_shuffle.proofs.runs.make_attempts.Goals as goal

-- the turns that an attempt adds are those of its list, completed
added_in : (p q : Sizes) (ds : ℕ → Draw) (turns : List (List ℕ)) (a : ℕ) (list old new : List ℕ) (result : Result Verdict VaultFault) → q ≡ p → list ≡ handed_in turns a
    → AddsAttempt q (full q (ds a) list) old new result → AddsAttempt p (made_in p ds turns a) old new result
added_in p q ds turns a list old new result same is added =
    subst (λ (l : List ℕ). AddsAttempt p (full p (ds a) l) old new result) is
    (subst (λ (x : Sizes). AddsAttempt x (full x (ds a) list) old new result) same added)

short_in : {V : Type 0} (p q : Sizes) (ds : ℕ → Draw) (turns : List (List ℕ)) (a : ℕ) (list : List ℕ) (g : Parts V) (result : Result Verdict VaultFault) → q ≡ p → list ≡ handed_in turns a
    → StopsShort q a (full q (ds a) list) g result → StopsShort p a (made_in p ds turns a) g result
short_in p q ds turns a list g result same is short =
    subst (λ (l : List ℕ). StopsShort p a (full p (ds a) l) g result) is
    (subst (λ (x : Sizes). StopsShort x a (full x (ds a) list) g result) same short)

pub make_attempt-requires-clause-room : goal.make_attempt-requires-clause-room
make_attempt-requires-clause-room g c =
    let f = c.loop-attempt.floor in
    let inv = c.loop-attempt.invariant in
    let a = c.loop-attempt.attempt in
    let turns = c.args.turns.now in
    let inside : a < g.G.Told.plan.attempts = omega (arith, c.loop-attempt-test.true, c.attempts-attempt-end.ensures.value, ap (λ (q : Sizes). q.attempts) (c.plan.ensures ∙ c.requires.next.of.plan)) in
    subst (λ (n : ℕ). length f.history + 1 + n < f.room)
    (sym (ap₂ (λ (q : Sizes) (l : List ℕ). length (completed q l)) inv.before.plan c.list.ensures.value))
    (room_for g.V.Device.faults g.G.Told.plan g.G.Told.draws turns a f c.loop-attempt.failures f.room inv.before inside inv.room)

pub returns-then-is_good-clause-ends : goal.returns-then-is_good-clause-ends
returns-then-is_good-clause-ends g c =
    let p = g.G.Told.plan in
    let ds = g.G.Told.draws in
    let f = c.loop-attempt.floor in
    let inv = c.loop-attempt.invariant in
    let a = c.loop-attempt.attempt in
    let turns = c.args.turns.now in
    let inside : a < p.attempts = omega (arith, c.loop-attempt-test.true, c.attempts-attempt-end.ensures.value, ap (λ (q : Sizes). q.attempts) (c.plan.ensures ∙ c.requires.next.of.plan)) in
    ends_good g.V.Device.faults p ds turns a f c.make_attempt.new.floor c.loop-attempt.failures inv.before inside (ap (λ (r : Roots). r.plan) c.make_attempt.ensures.origin ∙ inv.before.plan)
    (All-full p (ds a) (handed_in turns a) (workers_at p.workers turns a c.requires.numbers)) c.in-Ok.verdict
    (added_in p f.plan ds turns a c.list.result.now f.history c.make_attempt.new.floor.history (Ok c.in-Ok.verdict) inv.before.plan c.list.ensures.value c.in-Ok.ensures.history)
    c.in-Ok.ensures.ends (sym c.is_good.ensures ∙ c.if-is_good.true)

pub make_attempt-requires-clause-orders : goal.make_attempt-requires-clause-orders
make_attempt-requires-clause-orders g c = λ i i_in. sym (ap (λ (d : Draw). d.order i) (c.requires.draws c.loop-attempt.attempt))

pub add-requires : goal.add-requires
add-requires g c =
    let p = g.G.Told.plan in
    let inv = c.loop-attempt.invariant in
    let a = c.loop-attempt.attempt in
    let inside : a < p.attempts = omega (arith, c.loop-attempt-test.true, c.attempts-attempt-end.ensures.value, ap (λ (q : Sizes). q.attempts) (c.plan.ensures ∙ c.requires.next.of.plan)) in
    let long = ap length inv.before.failed ∙ length-map (below a) (verdict_in p g.G.Told.draws (made p g.G.Told.draws c.args.turns.now)) ∙ length-range_with_len 0 a in
    let most = c.requires.planned.parameters.attempts_greatest in
    omega (arith, long, inside, most)

pub returns-in-Err-clause-ends : goal.returns-in-Err-clause-ends
returns-in-Err-clause-ends g c =
    let p = g.G.Told.plan in
    let ds = g.G.Told.draws in
    let f = c.loop-attempt.floor in
    let inv = c.loop-attempt.invariant in
    let a = c.loop-attempt.attempt in
    let turns = c.args.turns.now in
    let inside : a < p.attempts = omega (arith, c.loop-attempt-test.true, c.attempts-attempt-end.ensures.value, ap (λ (q : Sizes). q.attempts) (c.plan.ensures ∙ c.requires.next.of.plan)) in
    subst (λ (o : Outcome). (count : ℕ) → MayEnd g.V.Device.faults p ds (made p ds turns) count count c.make_attempt.new.floor c.loop-attempt.failures o) (sym c.outcome_by.ensures)
    (ends_cut g.V.Device.faults p ds turns a f c.make_attempt.new.floor c.loop-attempt.failures inv.before inside (ap (λ (r : Roots). r.plan) c.make_attempt.ensures.origin ∙ inv.before.plan)
    (All-full p (ds a) (handed_in turns a) (workers_at p.workers turns a c.requires.numbers)) c.in-Err.fault
    (added_in p f.plan ds turns a c.list.result.now f.history c.make_attempt.new.floor.history (Err c.in-Err.fault) inv.before.plan c.list.ensures.value c.in-Err.ensures.history)
    c.in-Err.ensures.ends)

pub returns-in-Err-clause-cut : goal.returns-in-Err-clause-cut
returns-in-Err-clause-cut g c =
    let p = g.G.Told.plan in
    let ds = g.G.Told.draws in
    let f = c.loop-attempt.floor in
    let last = c.make_attempt.new.floor in
    let inv = c.loop-attempt.invariant in
    let a = c.loop-attempt.attempt in
    let turns = c.args.turns.now in
    let inside : a < p.attempts = omega (arith, c.loop-attempt-test.true, c.attempts-attempt-end.ensures.value, ap (λ (q : Sizes). q.attempts) (c.plan.ensures ∙ c.requires.next.of.plan)) in
    subst (EndWithCut p (lists_ended p last) (made p ds turns) last.recorder.trace) (sym c.outcome_by.ensures)
    (cut_ends g.V.Device.faults p ds turns a f last c.loop-attempt.failures inv.before inside (ap (λ (r : Roots). r.plan) c.make_attempt.ensures.origin ∙ inv.before.plan)
    (All-full p (ds a) (handed_in turns a) (workers_at p.workers turns a c.requires.numbers)) c.in-Err.fault
    (added_in p f.plan ds turns a c.list.result.now f.history last.history (Err c.in-Err.fault) inv.before.plan c.list.ensures.value c.in-Err.ensures.history)
    (short_in p f.plan ds turns a c.list.result.now last (Err c.in-Err.fault) inv.before.plan c.list.ensures.value c.in-Err.ensures.behind))

pub loop-attempt-preserved : goal.loop-attempt-preserved
loop-attempt-preserved g c =
    let p = g.G.Told.plan in
    let ds = g.G.Told.draws in
    let f = c.loop-attempt.floor in
    let inv = c.loop-attempt.invariant in
    let a = c.loop-attempt.attempt in
    let turns = c.args.turns.now in
    let done = c.make_attempt.ensures in
    let inside : a < p.attempts = omega (arith, c.loop-attempt-test.true, c.attempts-attempt-end.ensures.value, ap (λ (q : Sizes). q.attempts) (c.plan.ensures ∙ c.requires.next.of.plan)) in
    record {
      before = subst (IsBefore g.V.Device.faults p ds turns (a + 1) c.make_attempt.new.floor) (sym c.add.ensures)
          (leads_on g.V.Device.faults p ds turns a f c.make_attempt.new.floor c.loop-attempt.failures inv.before inside (ap (λ (r : Roots). r.plan) done.origin ∙ inv.before.plan)
          (All-full p (ds a) (handed_in turns a) (workers_at p.workers turns a c.requires.numbers)) c.in-Ok.verdict
          (added_in p f.plan ds turns a c.list.result.now f.history c.make_attempt.new.floor.history (Ok c.in-Ok.verdict) inv.before.plan c.list.ensures.value c.in-Ok.ensures.history)
          c.in-Ok.ensures.ends done.outcome (sym c.is_good.ensures ∙ c.if-is_good.false));
      room = subst (λ (n : ℕ). entries_before p turns p.attempts < n) (sym (ap (λ (r : Roots). r.room) done.origin)) inv.room;
      members = done.members;
      each = done.each ∙ inv.each;
      plan = done.plan ∙ inv.plan ∙ sym (ap (λ (r : Roots). r.plan) done.origin);
      run = done.run ∙ inv.run ∙ sym (ap (λ (r : Roots). r.run) done.origin);
      log = onward c.args.floor.now.recorder.log f.recorder.log c.make_attempt.new.floor.recorder.log inv.log done.log;
      input = λ record_of faithful input.
          done.input record_of (subst (λ (q : Sizes). IsFaithful q c.make_attempt.new.floor.recorder.log) (sym inv.before.plan) faithful)
          (inv.input record_of (faithful_before p f.recorder.log c.make_attempt.new.floor.recorder.log done.log faithful) input);
      took = λ record_of items took. done.took record_of (subst (λ (q : Sizes). AreItems (item_length q.form) record_of) (sym inv.before.plan) items) (inv.took record_of items took);
      failed = λ none. c.in-Ok.ensures.failed (inv.failed none);
      reads = λ gave. c.in-Ok.ensures.reads (inv.reads gave);
      origin = done.origin ∙ inv.origin;
    }

pub returns-then-is_good-clause-log : goal.returns-then-is_good-clause-log
returns-then-is_good-clause-log g c =
    onward c.args.floor.now.recorder.log c.loop-attempt.floor.recorder.log c.make_attempt.new.floor.recorder.log c.loop-attempt.invariant.log c.make_attempt.ensures.log

pub returns-in-Err-clause-log : goal.returns-in-Err-clause-log
returns-in-Err-clause-log g c =
    onward c.args.floor.now.recorder.log c.loop-attempt.floor.recorder.log c.make_attempt.new.floor.recorder.log c.loop-attempt.invariant.log c.make_attempt.ensures.log

pub returns-then-is_good-clause-outputs : goal.returns-then-is_good-clause-outputs
returns-then-is_good-clause-outputs g c = λ record_of named items faithful input same.
    let p = g.G.Told.plan in
    let ds = g.G.Told.draws in
    let f = c.loop-attempt.floor in
    let inv = c.loop-attempt.invariant in
    let a = c.loop-attempt.attempt in
    let turns = c.args.turns.now in
    let log = c.make_attempt.new.floor.recorder.log in
    let done = c.make_attempt.ensures in
    let inside : a < p.attempts = omega (arith, c.loop-attempt-test.true, c.attempts-attempt-end.ensures.value, ap (λ (q : Sizes). q.attempts) (c.plan.ensures ∙ c.requires.next.of.plan)) in
    let number : a ≡ named = cc same in
    let good = c.in-Ok.is ∙ ap Ok (good_is c.in-Ok.verdict (sym c.is_good.ensures ∙ c.if-is_good.true)) in
    subst (λ (n : ℕ). AreOutputsStored p c.args.floor.now.run (ds n) (turns_in (made p ds turns) n) n record_of p.b log) number
    (subst (λ (h : List ℕ). AreOutputsStored p c.args.floor.now.run (ds a) h a record_of p.b log) (sym (get_or-map-range_with_len (made_in p ds turns) 0 p.attempts a a [] inside (omega arith)))
    (subst (λ (l : List ℕ). AreOutputsStored p c.args.floor.now.run (ds a) (full p (ds a) l) a record_of p.b log) c.list.ensures.value
    (subst (λ (k : Keys). AreOutputsStored p k (ds a) (full p (ds a) c.list.result.now) a record_of p.b log) (ap (λ (r : Roots). r.run) inv.origin)
    (subst (λ (q : Sizes). AreOutputsStored q f.run (ds a) (full q (ds a) c.list.result.now) a record_of q.b log) inv.before.plan
    (done.outputs record_of (subst (λ (q : Sizes). AreItems (item_length q.form) record_of) (sym inv.before.plan) items)
    (subst (λ (q : Sizes). IsFaithful q log) (sym inv.before.plan) faithful)
    (inv.input record_of (faithful_before p f.recorder.log log done.log faithful) input) good)))))

pub returns-in-Err-clause-outputs : goal.returns-in-Err-clause-outputs
returns-in-Err-clause-outputs g c = λ record_of named items faithful input same. absurd (cut_short c.in-Err.fault named (sym c.outcome_by.ensures ∙ same))

pub returns-then-is_good-clause-input : goal.returns-then-is_good-clause-input
returns-then-is_good-clause-input g c = λ record_of faithful input.
    let inv = c.loop-attempt.invariant in
    let done = c.make_attempt.ensures in
    done.input record_of (subst (λ (q : Sizes). IsFaithful q c.make_attempt.new.floor.recorder.log) (sym inv.before.plan) faithful)
    (inv.input record_of (faithful_before g.G.Told.plan c.loop-attempt.floor.recorder.log c.make_attempt.new.floor.recorder.log done.log faithful) input)

pub returns-in-Err-clause-input : goal.returns-in-Err-clause-input
returns-in-Err-clause-input g c = λ record_of faithful input.
    let inv = c.loop-attempt.invariant in
    let done = c.make_attempt.ensures in
    done.input record_of (subst (λ (q : Sizes). IsFaithful q c.make_attempt.new.floor.recorder.log) (sym inv.before.plan) faithful)
    (inv.input record_of (faithful_before g.G.Told.plan c.loop-attempt.floor.recorder.log c.make_attempt.new.floor.recorder.log done.log faithful) input)

pub returns-then-is_good-clause-took : goal.returns-then-is_good-clause-took
returns-then-is_good-clause-took g c = λ record_of items took.
    let inv = c.loop-attempt.invariant in
    c.make_attempt.ensures.took record_of (subst (λ (q : Sizes). AreItems (item_length q.form) record_of) (sym inv.before.plan) items) (inv.took record_of items took)

pub returns-in-Err-clause-took : goal.returns-in-Err-clause-took
returns-in-Err-clause-took g c = λ record_of items took.
    let inv = c.loop-attempt.invariant in
    c.make_attempt.ensures.took record_of (subst (λ (q : Sizes). AreItems (item_length q.form) record_of) (sym inv.before.plan) items) (inv.took record_of items took)

pub returns-in-Err-clause-failed : goal.returns-in-Err-clause-failed
returns-in-Err-clause-failed g c = λ none.
    subst (λ (o : Outcome). FailedByOutcome o c.make_attempt.new.floor.recorder.log) (sym c.outcome_by.ensures)
    (cut_failed c.in-Err.fault c.make_attempt.new.floor.recorder.log (c.in-Err.ensures.failed (c.loop-attempt.invariant.failed none)))

pub returns-then-is_good-clause-reads : goal.returns-then-is_good-clause-reads
returns-then-is_good-clause-reads g c = λ gave. c.in-Ok.ensures.reads (c.loop-attempt.invariant.reads gave)

pub returns-in-Err-clause-reads : goal.returns-in-Err-clause-reads
returns-in-Err-clause-reads g c = λ gave.
    let new = c.make_attempt.new.floor in
    subst (λ (o : Outcome). ReadsOf (GaveItsOwn g.G.Told.draws new) o new.recorder.log) (sym c.outcome_by.ensures)
    (cut_gave (GaveItsOwn g.G.Told.draws new) c.in-Err.fault new.recorder.log (c.in-Err.ensures.reads (c.loop-attempt.invariant.reads gave)))

pub returns-clause-reads : goal.returns-clause-reads
returns-clause-reads g c = c.loop-attempt.invariant.reads

pub returns-then-is_good-clause-failed : goal.returns-then-is_good-clause-failed
returns-then-is_good-clause-failed g c = λ none. c.in-Ok.ensures.failed (c.loop-attempt.invariant.failed none)
