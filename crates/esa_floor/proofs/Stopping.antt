-- A turn that fails: the turns stop at it, and the queues and the slots hold what the turns before it made.
use Rattle.std.proofs.Common.{◌≡◌, ◌≢◌, ℕ, ◌-◌, ◌<◌, ◌≤◌, List, [], ◌∷◌, ◌++◌, length, map, Option, Some, None, refl, sym, ap, ◌∙◌, subst, arith, append-nil}
use Rattle.std.specs.Prelude.{count_by}
use Rattle.std.proofs.Math.Nat.{mod-lt}
use Rattle.esa_device.specs.Logs.{Carried, Took}
use Rattle.esa_device.proofs.LogLaws.{took-elsewhere, took-read}
use Rattle.esa_envelope.specs.declared.keys.Keys.{Keys}
use Rattle.esa_laws.proofs.PairLaws.{pair-new}
use Rattle.esa_laws.proofs.RoundLaws.{next-by_phase}
use Rattle.esa_params.specs.Sizes.{Sizes}
use Rattle.esa_params.specs.Slots.{number_of}
use Rattle.esa_report.specs.declared.item.Item.{Item}
use Rattle.esa_spec.specs.Draws.{Draw}
use Rattle.esa_spec.specs.Lines.{queued}
use Rattle.esa_spec.specs.Traces.{chunk_slot}
use Rattle.esa_spec.specs.Turns.{events, held, is_write_at, next, next_phase, order, turns_of}
use Rattle.esa_spec.specs.declared.event.Event.{Event}
use Rattle.esa_spec.specs.declared.event.Event.TheVariants.{Claim, Read, Exchange, Write, Done, Idle}
use Rattle.esa_stash.specs.Stash.{Held, queue_at}
use Rattle.esa_floor.specs.Keeping.{AreChunks, AreChunksStored, AreRecords, HasInput, HoldsAfter, HoldsChunks, HoldsRecords, QueuesHold, SlotsHold, StopsAfter, chunk_block}
use Rattle.esa_floor.specs.Logging.{noted_of, read_of, write_of}
use Rattle.esa_floor.specs.Parts.{Parts, with_entry}
use Rattle.esa_floor.specs.Standing.{StopsAt, attempt_begun, turns_made}
use Rattle.esa_floor.specs.Working.{Working}
use Rattle.esa_floor.specs.declared.turn.Stop.{Stop}
use Rattle.esa_floor.specs.declared.turn.Stop.TheVariants as stop
use Rattle.esa_floor.proofs.Queueing.{input_was}
use Rattle.esa_floor.proofs.Resting.{begun_on, turns_are}
use Rattle.esa_floor.proofs.Storing.{rows_apart, writes_inside}

-- what was stored before a turn that fails is stored after it
module _ (p : Sizes) (run : Keys) (a : ℕ) (d : Draw) (record_of : ℕ → Item) (h : List ℕ) (n : ℕ) (log : List Carried) where
  as_before : (log_now : List Carried) → ((j i : ℕ) (bytes : List ℕ) → j < p.b → i < p.b → 1 ≤ count_by (is_write_at j i) (events p.b h)
      → Took p (number_of p (chunk_slot p j i)) bytes log → Took p (number_of p (chunk_slot p j i)) bytes log_now)
      → AreChunksStored p run a d record_of h log → AreChunksStored p run a d record_of h log_now
  as_before log_now stays before j i j_in i_in some =
      let are = before j i j_in i_in some in
      record { exchanged = are.exchanged; took = stays j i (chunk_block p run a d record_of (order p.b h) j i) j_in i_in some are.took }

  -- the slot of a chunk that is written now is another one than those of the chunks that were written
  elsewhere : (j i k m : ℕ) → next p.b h n ≡ Write j i → m < p.b → 1 ≤ count_by (is_write_at k m) (events p.b h)
      → number_of p (chunk_slot p k m) ≢ number_of p (chunk_slot p j i)
  elsewhere j i k m is m_in some same =
      let inside = writes_inside p.b (held p.b h n) (next_phase p.b h n) j i (mod-lt (turns_of n h) (omega arith)) (sym (next-by_phase p.b h n) ∙ is) in
      let pair = rows_apart p.b j i k m inside.1 m_in (omega (arith, same)) in
      let none : count_by (is_write_at k m) (events p.b h) ≡ 0 =
      sym (ap (λ (x : ℕ). count_by (is_write_at x i) (events p.b h)) pair.0 ∙ ap (λ (x : ℕ). count_by (is_write_at k x) (events p.b h)) pair.1)
      ∙ pair-new p.b h n j i is in
      absurd (omega (arith, none, some))

  pub still_stored : (e : Event) → next p.b h n ≡ e → (s : Option Stop) (given : List ℕ) (chunks : List Item)
      → AreChunksStored p run a d record_of h log → AreChunksStored p run a d record_of h (log ++ noted_of p run a e s given chunks)
  still_stored (Claim j) is s given chunks before = subst (AreChunksStored p run a d record_of h) (sym (append-nil log)) before
  still_stored (Read j) is s given chunks before =
      as_before (log ++ read_of p a j s given ∷ [])
      (λ k m bytes k_in m_in some. took-read p (number_of p (chunk_slot p k m)) bytes log (read_of p a j s given) refl) before
  still_stored (Exchange j) is s given chunks before = subst (AreChunksStored p run a d record_of h) (sym (append-nil log)) before
  still_stored (Write j i) is s given chunks before =
      as_before (log ++ write_of p run a j i s chunks ∷ [])
      (λ k m bytes k_in m_in some.
      took-elsewhere p (number_of p (chunk_slot p k m)) bytes log (write_of p run a j i s chunks) (elsewhere j i k m is m_in some)) before
  still_stored Done is s given chunks before = subst (AreChunksStored p run a d record_of h) (sym (append-nil log)) before
  still_stored Idle is s given chunks before = subst (AreChunksStored p run a d record_of h) (sym (append-nil log)) before

-- the room of a history has no part in why turns stopped
pub roomy : {V : Type 0} (faults : V → ℕ) (d : Draw) (a : ℕ) (f : Parts V) (room done : ℕ) (s : Option Stop) → StopsAt faults d a f done s
    → StopsAt faults d a (record f { room = room }) done s
roomy faults d a f room done None why = why
roomy faults d a f room done (Some (stop.StashOverflow j)) why = why
roomy faults d a f room done (Some (stop.DeviceFault number)) why = why
roomy faults d a f room done (Some (stop.Tampered number)) why = why

-- a floor after a turn that failed
module _ {V : Type 0} (f new : Parts V) (n room : ℕ) where
  abbrev after : Parts V
  after = record new { history = f.history ++ n ∷ []; room = room }

  abbrev Kept : Type 0
  Kept = new ≡ record f { recorder = new.recorder; stash = new.stash; counts = new.counts; counted = new.counted; stop = new.stop }

  pub stops_on : (faults : V → ℕ) (ds : ℕ → Draw) → n ≢ f.plan.workers → Kept → StopsAt faults (ds (attempt_begun f)) (attempt_begun f) (with_entry new n) (length (turns_made f)) new.stop
      → StopsAfter faults ds (turns_made f) after
  stops_on faults ds worker kept stops =
      let same : new.plan ≡ f.plan = ap (λ (x : Parts V). x.plan) kept in
      let history : new.history ≡ f.history = ap (λ (x : Parts V). x.history) kept in
      let there : StopsAt faults (ds (attempt_begun f)) (attempt_begun f) after (length (turns_made f)) new.stop =
      subst (λ (xs : List ℕ). StopsAt faults (ds (attempt_begun f)) (attempt_begun f) (record new { history = xs ++ n ∷ []; room = room }) (length (turns_made f)) new.stop)
      history (roomy faults (ds (attempt_begun f)) (attempt_begun f) (with_entry new n) room (length (turns_made f)) new.stop stops) in
      record {
        failed = n;
        turns = turns_are faults ds f n worker after same refl;
        stops = subst (λ (k : ℕ). StopsAt faults (ds k) k after (length (turns_made f)) new.stop) (sym (ap (λ (k : ℕ). k - 1) (begun_on faults ds f n worker after same refl))) there;
      }

  module _ {C : Type 0} (w : Working C) (faults : V → ℕ) (ds : ℕ → Draw) (worker : n ≢ f.plan.workers) (kept : Kept)
      (runs : w.run ≡ f.run)
      (idle : f.attempt ≡ None → new ≡ f) (later : f.stop ≢ None → new ≡ f)
      (noted : f.attempt ≢ None → f.stop ≡ None
      → new.recorder.log ≡ f.recorder.log ++ noted_of f.plan w.run (attempt_begun f) (next f.plan.b (turns_made f) n) new.stop new.recorder.last w.buffers.chunks)
    where
      abbrev now : ℕ
      now = attempt_begun f

      same : new.plan ≡ f.plan
      same = ap (λ (x : Parts V). x.plan) kept

      attempt_is : attempt_begun after ≡ now
      attempt_is = ap (λ (k : ℕ). k - 1) (begun_on faults ds f n worker after same refl)

      was : (record_of : ℕ → Item) → HasInput new record_of → HasInput f record_of
      was record_of = input_was f new w.run now (next f.plan.b (turns_made f) n) w.buffers.chunks kept runs idle later noted record_of

      pub queues_after : new.stash ≡ f.stash → f.attempt ≢ None → f.stop ≡ None → QueuesHold ds f → (record_of : ℕ → Item) → HasInput new record_of → (i : ℕ) → i < new.plan.b
          → queue_at new.stash i
          ≡ map record_of (queued new.plan (ds (attempt_begun after)) (order new.plan.b (turns_made f)) (length (order new.plan.b (turns_made f))) i)
      queues_after stays some free queues record_of input i inside =
          ap (λ (s : Held). queue_at s i) stays
          ∙ queues record_of (was record_of input) some free i (subst (λ (q : Sizes). i < q.b) same inside)
          ∙ sym (ap (λ (q : Sizes). map record_of (queued q (ds (attempt_begun after)) (order q.b (turns_made f)) (length (order q.b (turns_made f))) i)) same
          ∙ ap (λ (k : ℕ). map record_of (queued f.plan (ds k) (order f.plan.b (turns_made f)) (length (order f.plan.b (turns_made f))) i)) attempt_is)

      pub slots_after : f.attempt ≢ None → f.stop ≡ None → SlotsHold ds f → (record_of : ℕ → Item) → HasInput new record_of
          → AreChunksStored new.plan new.run (attempt_begun after) (ds (attempt_begun after)) record_of (turns_made f) new.recorder.log
      slots_after some free slots record_of input =
          let e = next f.plan.b (turns_made f) n in
          let more = still_stored f.plan f.run now (ds now) record_of (turns_made f) n f.recorder.log e refl new.stop new.recorder.last w.buffers.chunks
          (slots record_of (was record_of input) some free) in
          let log_is : new.recorder.log ≡ f.recorder.log ++ noted_of f.plan f.run now e new.stop new.recorder.last w.buffers.chunks =
          noted some free ∙ ap (λ (k : Keys). f.recorder.log ++ noted_of f.plan k now e new.stop new.recorder.last w.buffers.chunks) runs in
          subst (λ (q : Sizes). AreChunksStored q new.run (attempt_begun after) (ds (attempt_begun after)) record_of (turns_made f) new.recorder.log) (sym same)
          (subst (λ (k : Keys). AreChunksStored f.plan k (attempt_begun after) (ds (attempt_begun after)) record_of (turns_made f) new.recorder.log)
          (sym (ap (λ (x : Parts V). x.run) kept))
          (subst (λ (k : ℕ). AreChunksStored f.plan f.run k (ds k) record_of (turns_made f) new.recorder.log) (sym attempt_is)
          (subst (AreChunksStored f.plan f.run now (ds now) record_of (turns_made f)) (sym log_is) more)))

      still_chunks : (record_of : ℕ → Item) (h : List ℕ) (j : ℕ) (held : List Item) → AreChunks f.plan (ds now) record_of (order f.plan.b h) j held
          → AreChunks new.plan (ds (attempt_begun after)) record_of (order new.plan.b h) j held
      still_chunks record_of h j held are =
          subst (λ (q : Sizes). AreChunks q (ds (attempt_begun after)) record_of (order q.b h) j held) (sym same)
          (subst (λ (k : ℕ). AreChunks f.plan (ds k) record_of (order f.plan.b h) j held) (sym attempt_is) are)

      -- what a worker held that didn't have the turn
      pub holds_after : {D : Type 0} (other : Working D) → f.attempt ≢ None → f.stop ≡ None → HoldsRecords f other → HoldsChunks ds f other
          → HoldsAfter ds (turns_made f) after other
      holds_after other some free records chunks = record {
        records = λ record_of input second inside.
            subst (λ (x : Parts V). AreRecords x.plan x.outer record_of other.bucket other.buffers.text) (sym kept)
            (records record_of (was record_of input) some free second (subst (λ (q : Sizes). other.bucket < q.b) same inside));
        chunks = λ record_of input third inside.
            still_chunks record_of (turns_made f) other.bucket other.buffers.chunks
            (chunks record_of (was record_of input) some free third (subst (λ (q : Sizes). other.bucket < q.b) same inside));
      }

      pub holds_still : {D : Type 0} (h : List ℕ) (other : Working D) → HoldsAfter ds h f other → HoldsAfter ds h after other
      holds_still h other holds = record {
        records = λ record_of input second inside.
            subst (λ (x : Parts V). AreRecords x.plan x.outer record_of other.bucket other.buffers.text) (sym kept)
            (holds.records record_of (was record_of input) second (subst (λ (q : Sizes). other.bucket < q.b) same inside));
        chunks = λ record_of input third inside.
            still_chunks record_of h other.bucket other.buffers.chunks
            (holds.chunks record_of (was record_of input) third (subst (λ (q : Sizes). other.bucket < q.b) same inside));
      }
