-- No access failed but the last one, turn after turn.
use Rattle.std.proofs.Common.{◌≡◌, ◌≢◌, ℕ, ◌<◌, Bool, true, false, List, [], ◌∷◌, ◌++◌, length, get_or, Option, Some, None, refl, sym, ap, ◌∙◌, subst, arith, inl, inr, append-nil, append_assoc, length-append}
use Rattle.std.specs.Prelude.{if◌then◌else◌}
use Rattle.std.proofs.lemmas.List.Elements.{All-push}
use Rattle.esa_device.specs.Logs.{Carried, NoneFailed, OnlyLastFailed, latest_carried}
use Rattle.esa_device.proofs.LogLaws.{found, latest-push}
use Rattle.esa_envelope.specs.declared.keys.Keys.{Keys}
use Rattle.esa_laws.proofs.RoundLaws.{by_pushes}
use Rattle.esa_params.specs.Sizes.{Sizes}
use Rattle.esa_params.specs.Slots.{access_of, at, writes_number}
use Rattle.esa_params.specs.declared.slot.Access.{Access}
use Rattle.esa_params.specs.declared.slot.Op.TheVariants.{Read as Reads, Write as Writes}
use Rattle.esa_params.specs.declared.slot.Region.TheVariants.{Input}
use Rattle.esa_report.specs.declared.item.Item.{Item}
use Rattle.esa_spec.specs.Draws.{Draw}
use Rattle.esa_spec.specs.Traces.{asked, chunk_slot}
use Rattle.esa_spec.specs.Turns.{event_at, next}
use Rattle.esa_spec.specs.declared.event.Event.{Event}
use Rattle.esa_spec.specs.declared.event.Event.TheVariants.{Claim, Read, Exchange, Write, Done, Idle}
use Rattle.esa_floor.specs.Logging.{noted_of, read_of, write_of}
use Rattle.esa_floor.specs.Parts.{Parts, with_entry}
use Rattle.esa_floor.specs.Standing.{StopsAt, attempt_begun, turns_made}
use Rattle.esa_floor.specs.Written.{FailedByStop}
use Rattle.esa_floor.specs.declared.turn.Stop.{Stop}
use Rattle.esa_floor.specs.declared.turn.Stop.TheVariants as stop
use Rattle.esa_floor.proofs.Resting.{none_or_some, turns_are}

abbrev pub Moved : Carried → Type 0
Moved entry = entry.bytes ≢ None

-- an entry of a log stands at an index of it
at_index : (before after : List Carried) (entry : Carried) → get_or (before ++ entry ∷ after) (length before) entry ≡ entry
at_index [] after entry = refl
at_index (x ∷ before) after entry = at_index before after entry

inside_of : (before after : List Carried) (entry : Carried) → length before < length (before ++ entry ∷ after)
inside_of before after entry = let both = length-append before (entry ∷ after) in omega (arith, both)

has_moved : (log before after : List Carried) (entry : Carried) → NoneFailed log → log ≡ before ++ entry ∷ after → Moved entry
has_moved log before after entry none is =
    subst Moved (at_index before after entry) (subst NoneFailed is none (length before) entry (inside_of before after entry))

-- one access that failed, behind some that didn't
pub last_failed : (log : List Carried) (access : Access) → NoneFailed log → OnlyLastFailed (log ++ record { access = access; bytes = None } ∷ [])
last_failed log access none = record { before = log; access = access; is = refl; none = none }

pub some_bytes : (bytes : List ℕ) → Some bytes ≢ None
some_bytes bytes none = cc none

-- one turn more, by its event. Where it stops since the device failed, it asked for an access
module _ (p : Sizes) (run : Keys) (a : ℕ) (log : List Carried) (none : NoneFailed log) where
  abbrev pub Asks : Event → Option Stop → Type 0
  Asks e s = (number : ℕ) → s ≡ Some (stop.DeviceFault number) → asked p a e ≢ None

  pub moved_read : (j : ℕ) (s : Option Stop) (given : List ℕ) → FailedByStop s (log ++ read_of p a j s given ∷ [])
  moved_read j None given = All-push Moved log (read_of p a j None given) none (some_bytes given)
  moved_read j (Some (stop.DeviceFault number)) given = last_failed log (access_of p a Reads (at Input j)) none
  moved_read j (Some (stop.Tampered number)) given = All-push Moved log (read_of p a j (Some (stop.Tampered number)) given) none (some_bytes given)
  moved_read j (Some (stop.StashOverflow k)) given = All-push Moved log (read_of p a j (Some (stop.StashOverflow k)) given) none (some_bytes given)

  pub moved_write : (j i : ℕ) (s : Option Stop) (chunks : List Item) → FailedByStop s (log ++ write_of p run a j i s chunks ∷ [])
  moved_write j i None chunks = All-push Moved log (write_of p run a j i None chunks) none (some_bytes _)
  moved_write j i (Some (stop.DeviceFault number)) chunks = last_failed log (access_of p a Writes (chunk_slot p j i)) none
  moved_write j i (Some (stop.Tampered number)) chunks = All-push Moved log (write_of p run a j i (Some (stop.Tampered number)) chunks) none (some_bytes _)
  moved_write j i (Some (stop.StashOverflow k)) chunks = All-push Moved log (write_of p run a j i (Some (stop.StashOverflow k)) chunks) none (some_bytes _)

  no_fault : (s : Option Stop) → ((number : ℕ) → s ≢ Some (stop.DeviceFault number)) → FailedByStop s log
  no_fault None other = none
  no_fault (Some (stop.DeviceFault number)) other = absurd (other number refl)
  no_fault (Some (stop.Tampered number)) other = none
  no_fault (Some (stop.StashOverflow j)) other = none

  quiet : (s : Option Stop) → ((number : ℕ) → s ≢ Some (stop.DeviceFault number)) → FailedByStop s (log ++ [])
  quiet s other = subst (FailedByStop s) (sym (append-nil log)) (no_fault s other)

  moved_noted : (e : Event) (s : Option Stop) (given : List ℕ) (chunks : List Item) → Asks e s → FailedByStop s (log ++ noted_of p run a e s given chunks)
  moved_noted (Claim j) s given chunks asks = quiet s (λ number is. asks number is refl)
  moved_noted (Read j) s given chunks asks = moved_read j s given
  moved_noted (Exchange j) s given chunks asks = quiet s (λ number is. asks number is refl)
  moved_noted (Write j i) s given chunks asks = moved_write j i s chunks
  moved_noted Done s given chunks asks = quiet s (λ number is. asks number is refl)
  moved_noted Idle s given chunks asks = quiet s (λ number is. asks number is refl)

-- a turn that stops since the device failed has asked for an access
module _ {V : Type 0} (faults : V → ℕ) (d : Draw) (a : ℕ) (f : Parts V) (p : Sizes) (h : List ℕ) (w : ℕ) (same : f.plan ≡ p) (turns : turns_made f ≡ h ++ w ∷ []) where
  asked_of : (s : Option Stop) → StopsAt faults d a f (length h) s → (number : ℕ) → s ≡ Some (stop.DeviceFault number) → asked p a (next p.b h w) ≢ None
  asked_of None stops number is none = absurd (cc is)
  asked_of (Some (stop.StashOverflow j)) stops number is none = absurd (cc is)
  asked_of (Some (stop.Tampered n)) stops number is none = absurd (cc is)
  asked_of (Some (stop.DeviceFault n)) stops number is none =
      let there : asked f.plan a (event_at f.plan.b (turns_made f) (length h)) ≡ Some stops.1.0 = stops.1.1 in
      let here : asked p a (next p.b h w) ≡ Some stops.1.0 =
      sym (ap (λ (q : Sizes). asked q a (event_at q.b (turns_made f) (length h))) same ∙ ap (λ (xs : List ℕ). asked p a (event_at p.b xs (length h))) turns) ∙ there in
      let both : None ≡ Some stops.1.0 = sym none ∙ here in
      absurd (cc both)

-- the log of a floor after a turn
module _ {V : Type 0} (faults : V → ℕ) (ds : ℕ → Draw) (f new : Parts V) (run : Keys) (n : ℕ) (chunks : List Item) (worker : n ≢ f.plan.workers)
    (kept : new ≡ record f { recorder = new.recorder; stash = new.stash; counts = new.counts; counted = new.counted; stop = new.stop })
    (idle : f.attempt ≡ None → new ≡ f) (later : f.stop ≢ None → new ≡ f)
    (noted : f.attempt ≢ None → f.stop ≡ None
    → new.recorder.log ≡ f.recorder.log ++ noted_of f.plan run (attempt_begun f) (next f.plan.b (turns_made f) n) new.stop new.recorder.last chunks)
    (stops : f.attempt ≢ None → f.stop ≡ None → new.stop ≢ None → StopsAt faults (ds (attempt_begun f)) (attempt_begun f) (with_entry new n) (length (turns_made f)) new.stop)
  where
    same : new ≡ f → FailedByStop f.stop f.recorder.log → FailedByStop new.stop new.recorder.log
    same is before = subst (λ (x : Parts V). FailedByStop x.stop x.recorder.log) (sym is) before

    some_attempt : (x : ℕ) → Some x ≢ None
    some_attempt x none = cc none

    plan_is : new.plan ≡ f.plan
    plan_is = ap (λ (x : Parts V). x.plan) kept

    asks : f.attempt ≢ None → f.stop ≡ None → (number : ℕ) → new.stop ≡ Some (stop.DeviceFault number) → asked f.plan (attempt_begun f) (next f.plan.b (turns_made f) n) ≢ None
    asks some runs number is =
        asked_of faults (ds (attempt_begun f)) (attempt_begun f) (with_entry new n) f.plan (turns_made f) n plan_is
        (turns_are faults ds f n worker (with_entry new n) plan_is (ap (λ (x : Parts V). x.history ++ n ∷ []) kept))
        new.stop (stops some runs (λ none. none_or_some (stop.DeviceFault number) (sym is ∙ none))) number is

    by_state : (o : Option ℕ) (s : Option Stop) → f.attempt ≡ o → f.stop ≡ s → FailedByStop f.stop f.recorder.log → FailedByStop new.stop new.recorder.log
    by_state None s none _ before = same (idle none) before
    by_state (Some x) (Some s) _ stopped before = same (later (λ none. none_or_some s (sym stopped ∙ none))) before
    by_state (Some x) None some goes before =
        let begun : f.attempt ≢ None = λ none. some_attempt x (sym some ∙ none) in
        subst (FailedByStop new.stop) (sym (noted begun goes))
        (moved_noted f.plan run (attempt_begun f) f.recorder.log (subst (λ (s : Option Stop). FailedByStop s f.recorder.log) goes before)
        (next f.plan.b (turns_made f) n) new.stop new.recorder.last chunks (asks begun goes))

    pub failed_turn : FailedByStop f.stop f.recorder.log → FailedByStop new.stop new.recorder.log
    failed_turn = by_state f.attempt f.stop refl refl

-- where the latest write of a slot stands
record Stands_at (p : Sizes) (number : ℕ) (log : List Carried) (entry : Carried) : Type 0 where
  before : List Carried
  after : List Carried
  is : log ≡ before ++ entry ∷ after
  writes : writes_number p number entry.access ≡ true

module _ (p : Sizes) (number : ℕ) (entry : Carried) where
  abbrev Latest : List Carried → Type 0
  Latest log = latest_carried p number log ≡ Some entry

  by_last : (log : List Carried) (last : Carried) → (Latest log → Stands_at p number log entry) → (writes : Bool) → writes_number p number last.access ≡ writes
      → (if writes_number p number last.access then Some last else latest_carried p number log) ≡ Some entry → Stands_at p number (log ++ last ∷ []) entry
  by_last log last before true writes is =
      let here : Some last ≡ Some entry = sym (ap (λ (w : Bool). if w then Some last else latest_carried p number log) writes) ∙ is in
      let same : last ≡ entry = cc here in
      subst (Stands_at p number (log ++ last ∷ [])) same (record { before = log; after = []; is = refl; writes = writes })
  by_last log last before false writes is =
      let there = before (sym (ap (λ (w : Bool). if w then Some last else latest_carried p number log) writes) ∙ is) in
      record {
        before = there.before;
        after = there.after ++ last ∷ [];
        is = ap (λ (xs : List Carried). xs ++ last ∷ []) there.is ∙ append_assoc there.before (entry ∷ there.after) (last ∷ []);
        writes = there.writes;
      }

  stands_at : (log : List Carried) → Latest log → Stands_at p number log entry
  stands_at =
      by_pushes (λ (log : List Carried). Latest log → Stands_at p number log entry)
      (λ is. absurd (cc is))
      (λ log last before is. by_last log last before (writes_number p number last.access) refl (sym (latest-push p number log last) ∙ is))

-- a slot whose latest write failed is that of the last access
pub failed_last : (p : Sizes) (number : ℕ) (access : Access) (log : List Carried) → OnlyLastFailed log
    → latest_carried p number log ≡ Some (record { access = access; bytes = None })
    → (before : List Carried) × (log ≡ before ++ record { access = access; bytes = None } ∷ [])
failed_last p number access log only latest =
    let entry : Carried = record { access = access; bytes = None } in
    let there = stands_at p number entry log latest in
    elim (found only.before there.before entry there.after (record { access = only.access; bytes = None }) (sym only.is ∙ there.is)) [
      | inl here ↦ (only.before, only.is ∙ ap (λ (e : Carried). only.before ++ e ∷ []) here.1)
      | inr inside ↦ absurd (has_moved only.before there.before inside.0 entry only.none inside.1 refl)
    ]

-- where no access failed, each latest write took bytes
pub moved_latest : (p : Sizes) (number : ℕ) (entry : Carried) (log : List Carried) → NoneFailed log → latest_carried p number log ≡ Some entry
    → (bytes : List ℕ) × (entry.bytes ≡ Some bytes)
moved_latest p number entry log none latest =
    let there = stands_at p number entry log latest in
    some_of entry.bytes refl (has_moved log there.before there.after entry none there.is)
  where
    some_of : (bytes : Option (List ℕ)) → entry.bytes ≡ bytes → entry.bytes ≢ None → (xs : List ℕ) × (entry.bytes ≡ Some xs)
    some_of None is moved = absurd (moved is)
    some_of (Some xs) is moved = (xs, is)
