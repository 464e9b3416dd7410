-- Which accesses failed and which reads gave their blocks, by how a floor stopped or ended, turn after turn.
use Rattle.std.proofs.Common.{◌≡◌, ◌≢◌, ℕ, List, [], ◌∷◌, ◌++◌, get_or, length, All, Option, Some, None, refl, sym, ap, ◌∙◌, subst, append-nil}
use Rattle.std.proofs.lemmas.List.Elements.{All-weaker}
use Rattle.esa_device.specs.Logs.{Carried, NoneFailed}
use Rattle.esa_envelope.specs.declared.keys.Keys.{Keys}
use Rattle.esa_params.specs.Sizes.{Sizes}
use Rattle.esa_params.specs.Slots.{access_of, at, slot_number}
use Rattle.esa_params.specs.declared.slot.Access.{Access}
use Rattle.esa_params.specs.declared.slot.Op.TheVariants.{Read as Reads, Write as Writes}
use Rattle.esa_params.specs.declared.slot.Region.TheVariants.{Input}
use Rattle.esa_report.specs.declared.item.Item.{Item}
use Rattle.esa_spec.specs.Draws.{Draw}
use Rattle.esa_spec.specs.Traces.{asked, chunk_slot}
use Rattle.esa_spec.specs.Turns.{event_at, next}
use Rattle.esa_spec.specs.declared.event.Event.{Event}
use Rattle.esa_spec.specs.declared.event.Event.TheVariants.{Claim, Read, Exchange, Write, Done, Idle}
use Rattle.esa_floor.specs.Logging.{noted_of, read_of, write_of}
use Rattle.esa_floor.specs.Parts.{Parts, ended_as, with_entry}
use Rattle.esa_floor.specs.Standing.{IsAt, Stands, StopsAt, attempt_begun, turns_made}
use Rattle.esa_floor.specs.Written.{EachButLast, EachGaveItsBlock, FailedAtItsEnd, FailedBy, FailedByStop, GaveItsBlock, GaveItsOwn, GaveUpToItsEnd, OnlyFailedAt, ReadsGave, ReadsGaveBy, ReadsGaveTheirBlocks, attempt_turns}
use Rattle.esa_floor.specs.declared.turn.Outcome.{Outcome}
use Rattle.esa_floor.specs.declared.turn.Outcome.TheVariants as outcome
use Rattle.esa_floor.specs.declared.turn.Stop.{Stop}
use Rattle.esa_floor.specs.declared.turn.Stop.TheVariants as stop
use Rattle.esa_floor.proofs.Failing.{moved_read, moved_write}
use Rattle.esa_floor.proofs.Giving.{but-gave_on, each-gave_on, gave-ended}
use Rattle.esa_floor.proofs.Lasting.{turns-worker, turns_at}
use Rattle.esa_floor.proofs.Resting.{none_or_some, turns_are, working}

-- the access that a turn with this event asked for, where its device failed at the slot of this number
abbrev pub AsksAt : Sizes → ℕ → Event → ℕ → Type 0
AsksAt p a e number = (access : Access) × (asked p a e ≡ Some access) × (slot_number p access ≡ number)

-- one turn more, by its event
module _ (p : Sizes) (run : Keys) (a : ℕ) (log : List Carried) (none : NoneFailed log) where
  abbrev Asks : Event → Option Stop → Type 0
  Asks e s = (number : ℕ) → s ≡ Some (stop.DeviceFault number) → AsksAt p a e number

  failed_at : (access : Access) (number : ℕ) → (there : (is : Access) × (Some access ≡ Some is) × (slot_number p is ≡ number))
      → OnlyFailedAt p number (log ++ record { access = access; bytes = None } ∷ [])
  failed_at access number there =
      let same : access ≡ there.0 = cc there.1 in
      record { only = record { before = log; access = access; is = refl; none = none }; slot = ap (slot_number p) same ∙ there.2 }

  read_fails : (j : ℕ) (s : Option Stop) (given : List ℕ) → Asks (Read j) s → FailedBy p None s (log ++ read_of p a j s given ∷ [])
  read_fails j None given asks = moved_read p run a log none j None given
  read_fails j (Some (stop.DeviceFault number)) given asks = failed_at (access_of p a Reads (at Input j)) number (asks number refl)
  read_fails j (Some (stop.Tampered number)) given asks = moved_read p run a log none j (Some (stop.Tampered number)) given
  read_fails j (Some (stop.StashOverflow k)) given asks = moved_read p run a log none j (Some (stop.StashOverflow k)) given

  write_fails : (j i : ℕ) (s : Option Stop) (chunks : List Item) → Asks (Write j i) s → FailedBy p None s (log ++ write_of p run a j i s chunks ∷ [])
  write_fails j i None chunks asks = moved_write p run a log none j i None chunks
  write_fails j i (Some (stop.DeviceFault number)) chunks asks = failed_at (access_of p a Writes (chunk_slot p j i)) number (asks number refl)
  write_fails j i (Some (stop.Tampered number)) chunks asks = moved_write p run a log none j i (Some (stop.Tampered number)) chunks
  write_fails j i (Some (stop.StashOverflow k)) chunks asks = moved_write p run a log none j i (Some (stop.StashOverflow k)) chunks

  quiet : (s : Option Stop) → ((number : ℕ) → s ≢ Some (stop.DeviceFault number)) → FailedBy p None s (log ++ [])
  quiet None other = subst NoneFailed (sym (append-nil log)) none
  quiet (Some (stop.DeviceFault number)) other = absurd (other number refl)
  quiet (Some (stop.Tampered number)) other = subst NoneFailed (sym (append-nil log)) none
  quiet (Some (stop.StashOverflow j)) other = subst NoneFailed (sym (append-nil log)) none

  nothing : (access : Access) → None ≢ Some access
  nothing access is = cc is

  pub turn_fails : (e : Event) (s : Option Stop) (given : List ℕ) (chunks : List Item) → Asks e s → FailedBy p None s (log ++ noted_of p run a e s given chunks)
  turn_fails (Claim j) s given chunks asks = quiet s (λ number is. let there = asks number is in nothing there.0 there.1)
  turn_fails (Read j) s given chunks asks = read_fails j s given asks
  turn_fails (Exchange j) s given chunks asks = quiet s (λ number is. let there = asks number is in nothing there.0 there.1)
  turn_fails (Write j i) s given chunks asks = write_fails j i s chunks asks
  turn_fails Done s given chunks asks = quiet s (λ number is. let there = asks number is in nothing there.0 there.1)
  turn_fails Idle s given chunks asks = quiet s (λ number is. let there = asks number is in nothing there.0 there.1)

-- a turn that stops since the device failed has asked for an access of that slot
module _ {V : Type 0} (faults : V → ℕ) (d : Draw) (a : ℕ) (f : Parts V) (p : Sizes) (h : List ℕ) (w : ℕ) (same : f.plan ≡ p) (turns : turns_made f ≡ h ++ w ∷ []) where
  asks_at : (s : Option Stop) → StopsAt faults d a f (length h) s → (number : ℕ) → s ≡ Some (stop.DeviceFault number) → AsksAt p a (next p.b h w) number
  asks_at None stops number is = absurd (cc is)
  asks_at (Some (stop.StashOverflow j)) stops number is = absurd (cc is)
  asks_at (Some (stop.Tampered n)) stops number is = absurd (cc is)
  asks_at (Some (stop.DeviceFault n)) stops number is =
      let one : n ≡ number = cc is in (
        stops.1.0,
        sym (ap (λ (q : Sizes). asked q a (event_at q.b (turns_made f) (length h))) same ∙ ap (λ (xs : List ℕ). asked p a (event_at p.b xs (length h))) turns) ∙ stops.1.1,
        ap (λ (q : Sizes). slot_number q stops.1.0) (sym same) ∙ stops.1.2 ∙ one,
      )

-- the log of a floor after a turn
module _ {V : Type 0} (faults : V → ℕ) (ds : ℕ → Draw) (f new : Parts V) (run : Keys) (n : ℕ) (chunks : List Item) (worker : n ≢ f.plan.workers)
    (kept : new ≡ record f { recorder = new.recorder; stash = new.stash; counts = new.counts; counted = new.counted; stop = new.stop })
    (idle : f.attempt ≡ None → new ≡ f) (later : f.stop ≢ None → new ≡ f)
    (noted : f.attempt ≢ None → f.stop ≡ None
    → new.recorder.log ≡ f.recorder.log ++ noted_of f.plan run (attempt_begun f) (next f.plan.b (turns_made f) n) new.stop new.recorder.last chunks)
    (state : IsAt faults ds f f.outcome f.attempt)
  where
    some_attempt : (x : ℕ) → Some x ≢ None
    some_attempt x none = cc none

    same_failed : new ≡ f → FailedAtItsEnd f → FailedAtItsEnd new
    same_failed is before = subst FailedAtItsEnd (sym is) before

    pub fails_turn : (f.attempt ≢ None → f.stop ≡ None → new.stop ≢ None → StopsAt faults (ds (attempt_begun f)) (attempt_begun f) (with_entry new n) (length (turns_made f)) new.stop)
        → FailedAtItsEnd f → FailedAtItsEnd new
    fails_turn stops = by_state f.attempt f.stop refl refl
      where
        asks : f.attempt ≢ None → f.stop ≡ None → (number : ℕ) → new.stop ≡ Some (stop.DeviceFault number)
            → AsksAt f.plan (attempt_begun f) (next f.plan.b (turns_made f) n) number
        asks some runs number is =
            let plan_is : new.plan ≡ f.plan = ap (λ (x : Parts V). x.plan) kept in
            asks_at faults (ds (attempt_begun f)) (attempt_begun f) (with_entry new n) f.plan (turns_made f) n plan_is
            (turns_are faults ds f n worker (with_entry new n) plan_is (ap (λ (x : Parts V). x.history ++ n ∷ []) kept))
            new.stop (stops some runs (λ none. none_or_some (stop.DeviceFault number) (sym is ∙ none))) number is

        by_state : (o : Option ℕ) (s : Option Stop) → f.attempt ≡ o → f.stop ≡ s → FailedAtItsEnd f → FailedAtItsEnd new
        by_state None s none _ before = same_failed (idle none) before
        by_state (Some x) (Some s) _ stopped before = same_failed (later (λ none. none_or_some s (sym stopped ∙ none))) before
        by_state (Some x) None some goes before =
            let begun : f.attempt ≢ None = λ none. some_attempt x (sym some ∙ none) in
            let none : f.outcome ≡ None = (working faults ds f f.outcome f.attempt state begun).0 in
            let calm : NoneFailed f.recorder.log =
            subst (λ (s : Option Stop). FailedBy f.plan None s f.recorder.log) goes (subst (λ (o : Option Outcome). FailedBy f.plan o f.stop f.recorder.log) none before) in
            let now : FailedBy f.plan None new.stop new.recorder.log =
            subst (FailedBy f.plan None new.stop) (sym (noted begun goes))
            (turn_fails f.plan run (attempt_begun f) f.recorder.log calm (next f.plan.b (turns_made f) n) new.stop new.recorder.last chunks (asks begun goes)) in
            subst (λ (x : Parts V). FailedBy x.plan x.outcome new.stop new.recorder.log) (sym kept)
            (subst (λ (o : Option Outcome). FailedBy f.plan o new.stop new.recorder.log) (sym none) now)

    -- its reads, where a turn keeps what they gave by the stop
    module _ (room : ℕ) where
      abbrev Now : Option Outcome → Parts V → Type 0
      Now o x = ReadsGaveBy (GaveItsOwn ds (record x { history = f.history ++ n ∷ []; room = room })) o x.stop x.recorder.log

      abbrev turns_now : ℕ → List ℕ
      turns_now = turns_at f.plan.workers (f.history ++ n ∷ [])

      -- where the run has ended, the history alone is longer
      each_on : All (GaveItsOwn ds f) f.recorder.log → All (GaveItsBlock f.plan f.run ds turns_now) f.recorder.log
      each_on = each-gave_on f.plan f.run ds (attempt_turns f) turns_now n (turns-worker f.plan.workers f.history n worker) f.recorder.log

      but_on : EachButLast (GaveItsOwn ds f) f.recorder.log → EachButLast (GaveItsBlock f.plan f.run ds turns_now) f.recorder.log
      but_on = but-gave_on f.plan f.run ds (attempt_turns f) turns_now n (turns-worker f.plan.workers f.history n worker) f.recorder.log

      ended_on : (o : Outcome) → ReadsGaveBy (GaveItsOwn ds f) (Some o) f.stop f.recorder.log → Now (Some o) f
      ended_on (outcome.Shuffled a) before = each_on before
      ended_on outcome.Overflow before = each_on before
      ended_on (outcome.DeviceFault number) before = but_on before
      ended_on (outcome.Tampered number) before = but_on before
      ended_on outcome.BatchFailed before = each_on before

      by_outcome : (ReadsGaveTheirBlocks ds f → ReadsGaveTheirBlocks ds (record new { history = f.history ++ n ∷ []; room = room }))
          → (o : Option Outcome) → f.outcome ≡ o → ReadsGaveBy (GaveItsOwn ds f) o f.stop f.recorder.log → Now o new
      by_outcome gave None is before = gave before
      by_outcome gave (Some o) is before =
          subst (Now (Some o)) (sym (idle (subst (λ (x : Option Outcome). IsAt faults ds f x f.attempt) is state).0)) (ended_on o before)

      pub gives_turn : (ReadsGaveTheirBlocks ds f → ReadsGaveTheirBlocks ds (record new { history = f.history ++ n ∷ []; room = room }))
          → GaveUpToItsEnd ds f → GaveUpToItsEnd ds (record new { history = f.history ++ n ∷ []; room = room })
      gives_turn gave before = subst (λ (o : Option Outcome). Now o new) (sym (ap (λ (x : Parts V). x.outcome) kept)) (by_outcome gave f.outcome refl before)

-- a floor whose run has not ended
module _ {V : Type 0} (ds : ℕ → Draw) (f : Parts V) (goes_on : f.outcome ≡ None) where
  -- it goes by the stop
  pub failed_by_stop : FailedAtItsEnd f → FailedByStop f.stop f.recorder.log
  failed_by_stop failed = by_stop f.stop (subst (λ (o : Option Outcome). FailedBy f.plan o f.stop f.recorder.log) goes_on failed)
    where
      by_stop : (s : Option Stop) → FailedBy f.plan None s f.recorder.log → FailedByStop s f.recorder.log
      by_stop None failed = failed
      by_stop (Some (stop.DeviceFault number)) failed = failed.only
      by_stop (Some (stop.Tampered number)) failed = failed
      by_stop (Some (stop.StashOverflow j)) failed = failed

  pub reads_by_stop : GaveUpToItsEnd ds f → ReadsGaveTheirBlocks ds f
  reads_by_stop gave = subst (λ (o : Option Outcome). ReadsGaveBy (GaveItsOwn ds f) o f.stop f.recorder.log) goes_on gave

  pub none_failed : f.stop ≡ None → NoneFailed f.recorder.log → FailedAtItsEnd f
  none_failed runs none =
      subst (λ (o : Option Outcome). FailedBy f.plan o f.stop f.recorder.log) (sym goes_on)
      (subst (λ (s : Option Stop). FailedBy f.plan None s f.recorder.log) (sym runs) none)

  pub each_gave : f.stop ≡ None → EachGaveItsBlock ds f → GaveUpToItsEnd ds f
  each_gave runs gave =
      subst (λ (o : Option Outcome). ReadsGaveBy (GaveItsOwn ds f) o f.stop f.recorder.log) (sym goes_on)
      (subst (λ (s : Option Stop). ReadsGave (GaveItsOwn ds f) s f.recorder.log) (sym runs) gave)

-- so it is in an attempt
pub goes_on_in : {V : Type 0} (faults : V → ℕ) (p : Sizes) (ds : ℕ → Draw) (f : Parts V) → Stands faults p ds f → f.attempt ≢ None → f.outcome ≡ None
goes_on_in faults p ds f stands some = (working faults ds f f.outcome f.attempt stands.state some).0

-- where a run ends, what was read was so before
pub ended_gives : {V : Type 0} (ds : ℕ → Draw) (f : Parts V) (o : Outcome) → ReadsGaveBy (GaveItsOwn ds f) (Some o) f.stop f.recorder.log
    → GaveUpToItsEnd ds (ended_as f o)
ended_gives ds f (outcome.Shuffled a) gave =
    All-weaker (GaveItsOwn ds f) (GaveItsOwn ds (ended_as f (outcome.Shuffled a))) (gave-ended ds f (outcome.Shuffled a)) f.recorder.log gave
ended_gives ds f outcome.Overflow gave =
    All-weaker (GaveItsOwn ds f) (GaveItsOwn ds (ended_as f outcome.Overflow)) (gave-ended ds f outcome.Overflow) f.recorder.log gave
ended_gives ds f (outcome.DeviceFault number) gave =
    λ x entry inside. gave-ended ds f (outcome.DeviceFault number) (get_or f.recorder.log x entry) (gave x entry inside)
ended_gives ds f (outcome.Tampered number) gave =
    λ x entry inside. gave-ended ds f (outcome.Tampered number) (get_or f.recorder.log x entry) (gave x entry inside)
ended_gives ds f outcome.BatchFailed gave =
    All-weaker (GaveItsOwn ds f) (GaveItsOwn ds (ended_as f outcome.BatchFailed)) (gave-ended ds f outcome.BatchFailed) f.recorder.log gave
