-- What may follow an attempt: the floor stands once the next one is begun, or once the run is ended.
use Rattle.std.proofs.Common.{◌≡◌, ◌≢◌, ℕ, ◌+◌, ◌<◌, ◌≤◌, true, false, Bool, List, [], ◌∷◌, ◌++◌, length, take, drop, get_or, Option, Some, None, refl, sym, ap, ◌∙◌, subst, arith, append-nil, append_assoc, take-append-drop, length-append, zero-add}
use Rattle.std.specs.Prelude.{if◌then◌else◌, ◌&&◌, slice_index_or}
use Rattle.std.specs.Option.{option_to_list}
use Rattle.std.proofs.lemmas.List.{get_or_push, length-take-le, take_more}
use Rattle.esa_laws.proofs.AfterLaws.{Keeps, keeps, spread-begins}
use Rattle.esa_laws.proofs.HistoryLaws.{begun-owner, latest-owner, length-lists, lists-first, lists-owner}
use Rattle.esa_laws.proofs.SpreadLaws.{spread-push}
use Rattle.esa_laws.proofs.TurnLaws.{event_at-append}
use Rattle.esa_laws.proofs.VerdictLaws.{failing-by, finished-now, verdict-now}
use Rattle.esa_laws.proofs.WalkLaws.{all_failed-push, attempts-push, good_attempt-push}
use Rattle.esa_outside.specs.Cause.{Rose}
use Rattle.esa_params.specs.Sizes.{Sizes}
use Rattle.esa_params.specs.Slots.{access_of, at, greatest_trace, slot_number}
use Rattle.esa_params.specs.declared.slot.Access.{Access}
use Rattle.esa_params.specs.declared.slot.Op.TheVariants.{Read as Reads}
use Rattle.esa_params.specs.declared.slot.Region.TheVariants.{Input}
use Rattle.esa_spec.specs.Draws.{Draw, IsDrawn}
use Rattle.esa_spec.specs.Histories.{begun, latest, lists}
use Rattle.esa_spec.specs.Traces.{all_failed, asked, attempt_trace, attempts, drain, good_attempt, is_failed, load, rest, shuffle_trace, spread}
use Rattle.esa_spec.specs.Turns.{event_at, exchanged, next, order}
use Rattle.esa_spec.specs.Verdicts.{failing, is_finished, is_good, left, verdict}
use Rattle.esa_spec.specs.declared.event.Event.{Event}
use Rattle.esa_spec.specs.declared.event.Verdict.{Verdict}
use Rattle.esa_spec.specs.declared.event.Verdict.TheVariants as verdicts
use Rattle.esa_stash.specs.Stash.{empty_stash}
use Rattle.esa_vault.specs.Seals.{opens}
use Rattle.esa_floor.specs.Parts.{Parts, begun_as, ended_as, no_counts, nothing_counted}
use Rattle.esa_floor.specs.Standing.{EndsAs, IsAt, IsAtWork, IsOf, IsSpread, Stands, StopsAt, attempt_begun, lists_before, turns_made}
use Rattle.esa_spec.specs.Fronts.{Begins, EndsWith, items_in}
use Rattle.esa_floor.specs.declared.turn.Outcome.{Outcome}
use Rattle.esa_floor.specs.declared.turn.Outcome.TheVariants as outcome
use Rattle.esa_floor.specs.declared.turn.Stop.{Stop}
use Rattle.esa_floor.specs.declared.turn.Stop.TheVariants as stop
use Rattle.esa_floor.proofs.Resting.{working}
use Rattle.esa_floor.proofs.Turning.{traced_is}
use Rattle.esa_floor.specs.Ends.{HasMade, IsLoading, IsOver}
use Rattle.esa_crew.proofs.Loading.{fresh}

-- a floor that is ended stands, where it ends as its outcome says
ended_stands : {V : Type 0} (faults : V → ℕ) (p : Sizes) (ds : ℕ → Draw) (f : Parts V) (o : Outcome) → IsOf p f → length f.history < f.room
    → ((a : ℕ) → a < p.attempts → IsDrawn p (ds a)) → EndsAs faults ds (ended_as f o) o → Stands faults p ds (ended_as f o)
ended_stands faults p ds f o of room drawn ends = record {
  of = record {
    plan = of.plan;
    ready = of.ready;
    room = of.room;
    entries = let long = length-append f.history (f.plan.workers ∷ []) in omega (arith, long, room);
  };
  drawn = drawn;
  state = (refl, (let more = begun-owner f.plan.workers f.history in omega (arith, more)), ends);
}

-- an attempt at work that has made these accesses
module _ {V : Type 0} (faults : V → ℕ) (p : Sizes) (ds : ℕ → Draw) (f : Parts V) (a : ℕ) (made : List Access) (has : HasMade p ds f a made) where
  abbrev owner : ℕ
  owner = f.plan.workers

  abbrev h : List ℕ
  h = turns_made f

  abbrev hs : List (List ℕ)
  hs = lists_before f

  abbrev before : List Access
  before = load f.plan ++ attempts f.plan ds 0 hs

  number_is : 0 + length hs ≡ a
  number_is = let count = length-lists owner f.history in let is = has.begun in omega (arith, count, is)

  lists_are : lists owner (f.history ++ owner ∷ []) ≡ hs ++ h ∷ []
  lists_are = lists-owner owner f.history (let is = has.begun in omega (arith, is))

  attempts_are : attempts f.plan ds 0 (hs ++ h ∷ []) ≡ attempts f.plan ds 0 hs ++ attempt_trace f.plan (ds a) a h
  attempts_are =
      attempts-push f.plan ds 0 hs h
      ∙ ap (λ (t : Bool). attempts f.plan ds 0 hs ++ (if t then attempt_trace f.plan (ds (0 + length hs)) (0 + length hs) h else [])) has.earlier
      ∙ ap (λ (n : ℕ). attempts f.plan ds 0 hs ++ attempt_trace f.plan (ds n) n h) number_is

  -- the accesses of the shuffle with this attempt
  shuffle_is : shuffle_trace f.plan ds (lists owner (f.history ++ owner ∷ [])) ≡ before ++ attempt_trace f.plan (ds a) a h
  shuffle_is =
      ap (λ (l : List (List ℕ)). load f.plan ++ attempts f.plan ds 0 l) lists_are
      ∙ ap (λ (t : List Access). load f.plan ++ t) attempts_are
      ∙ sym (append_assoc (load f.plan) (attempts f.plan ds 0 hs) (attempt_trace f.plan (ds a) a h))

  cut_short : Begins made (attempt_trace f.plan (ds a) a h) → Begins f.recorder.trace (shuffle_trace f.plan ds (lists owner (f.history ++ owner ∷ [])))
  cut_short begins = (
    begins.0,
    shuffle_is ∙ ap (λ (t : List Access). before ++ t) begins.1 ∙ sym (append_assoc before made begins.0)
        ∙ ap (λ (t : List Access). t ++ begins.0) (sym has.trace),
  )

  last_is : (access : Access) → EndsWith made access → EndsWith f.recorder.trace access
  last_is access ends = (
    before ++ ends.0,
    has.trace ∙ ap (λ (t : List Access). before ++ t) ends.1 ∙ sym (append_assoc before ends.0 (access ∷ [])),
  )

  pub ends_at_fault : (access : Access) → Begins made (attempt_trace f.plan (ds a) a h) → EndsWith made access → Rose f.faults (faults f.recorder.device)
      → Stands faults p ds (ended_as f (outcome.DeviceFault (slot_number f.plan access)))
  ends_at_fault access begins ends rose =
      ended_stands faults p ds f (outcome.DeviceFault (slot_number f.plan access)) has.of has.room has.drawn
      (cut_short begins, (access, last_is access ends, refl), rose)

  turns_are : slice_index_or (lists owner (f.history ++ owner ∷ [])) a [] ≡ h
  turns_are =
      ap (λ (l : List (List ℕ)). slice_index_or l a []) lists_are
      ∙ ap (λ (n : ℕ). slice_index_or (hs ++ h ∷ []) n []) (sym number_is)
      ∙ get_or_push hs h [] (0 + length hs) (omega arith)

  pub ends_tampered : (access : Access) → Begins made (attempt_trace f.plan (ds a) a h) → EndsWith made access → faults f.recorder.device ≡ f.faults
      → access.op ≡ Reads → access.attempt ≡ a
      → opens f.plan f.run (at access.region access.index) a (items_in f.plan (ds a) (order f.plan.b h) access) f.recorder.last ≡ false
      → Stands faults p ds (ended_as f (outcome.Tampered (slot_number f.plan access)))
  ends_tampered access begins ends calm reads here closed =
      ended_stands faults p ds f (outcome.Tampered (slot_number f.plan access)) has.of has.room has.drawn (
        cut_short begins,
        (
          access,
          last_is access ends,
          reads,
          refl,
          subst (λ (n : ℕ). opens f.plan f.run (at access.region access.index) n
              (items_in f.plan (ds n) (order f.plan.b (slice_index_or (lists owner (f.history ++ owner ∷ [])) n [])) access) f.recorder.last ≡ false) (sym here)
              (ap (λ (g : List ℕ). opens f.plan f.run (at access.region access.index) a (items_in f.plan (ds a) (order f.plan.b g) access) f.recorder.last) turns_are
              ∙ closed),
        ),
        calm,
      )

  all_before : is_failed f.plan (ds a) h ≡ true → all_failed f.plan ds 0 (lists owner (f.history ++ owner ∷ [])) ≡ true
  all_before failed =
      ap (all_failed f.plan ds 0) lists_are ∙ all_failed-push f.plan ds 0 hs h
      ∙ ap (λ (t : Bool). t && is_failed f.plan (ds (0 + length hs)) h) has.earlier
      ∙ ap (λ (n : ℕ). is_failed f.plan (ds n) h) number_is ∙ failed

-- accesses that are made without a turn
pub makes_more : {V : Type 0} (p : Sizes) (ds : ℕ → Draw) (f new : Parts V) (a : ℕ) (made more : List Access) → HasMade p ds f a made
    → new ≡ record f { recorder = new.recorder; stash = new.stash } → new.recorder.plan ≡ f.recorder.plan
    → length new.recorder.trace + new.recorder.room ≡ length f.recorder.trace + f.recorder.room
    → new.recorder.trace ≡ f.recorder.trace ++ more → HasMade p ds new a (made ++ more)
makes_more {V} p ds f new a made more has same ready left longer =
    let before = load f.plan ++ attempts f.plan ds 0 (lists_before f) in
    subst (λ (x : Parts V). HasMade p ds x a (made ++ more)) (sym same) (record {
      of = record {
        plan = has.of.plan;
        ready = ready ∙ has.of.ready;
        room = subst (λ (n : ℕ). greatest_trace p ≤ n) (sym left) has.of.room;
        entries = has.of.entries;
      };
      room = has.room;
      drawn = has.drawn;
      begun = has.begun;
      planned = has.planned;
      earlier = has.earlier;
      trace = longer ∙ ap (λ (t : List Access). t ++ more) has.trace ∙ append_assoc before made more;
    })

-- an attempt that is over
module _ {V : Type 0} (faults : V → ℕ) (p : Sizes) (ds : ℕ → Draw) (f : Parts V) (a : ℕ) (over : IsOver faults p ds f a) where
  abbrev all : List Access
  all = attempt_trace f.plan (ds a) a (turns_made f)

  abbrev own : ℕ
  own = f.plan.workers

  begun_is : begun own (f.history ++ own ∷ []) ≡ a + 2
  begun_is = let more = begun-owner own f.history in let is = over.made.begun in omega (arith, more, is)

  whole : f.recorder.trace ≡ shuffle_trace f.plan ds (lists own (f.history ++ own ∷ []))
  whole = over.made.trace ∙ sym (shuffle_is faults p ds f a all over.made)

  none_made : latest own (f.history ++ own ∷ []) ≡ []
  none_made = latest-owner own f.history

  module _ (failed : is_failed f.plan (ds a) (turns_made f) ≡ true) where
    at_work : a + 1 < p.attempts → IsAtWork faults ds (begun_as f (a + 1)) (a + 1)
    at_work more = record {
      done = 0;
      attempt = let is = begun_is in omega (arith, is);
      some_begun = let is = begun_is in omega (arith, is);
      planned = subst (λ (q : Sizes). a + 1 < q.attempts) (sym over.made.of.plan) more;
      earlier = all_before faults p ds f a all over.made failed;
      traced = whole ∙ sym (append-nil (shuffle_trace f.plan ds (lists own (f.history ++ own ∷ []))))
          ∙ ap (λ (h : List ℕ). shuffle_trace f.plan ds (lists own (f.history ++ own ∷ [])) ++ spread f.plan (ds (a + 1)) (a + 1) (take 1 h)) (sym none_made);
      spread = subst (λ (h : List ℕ). IsSpread f.plan (ds (a + 1)) (take 0 h) (empty_stash f.plan.b f.plan.c f.plan.s) (no_counts f.plan.b) nothing_counted) (sym none_made)
          (fresh f.plan (ds (a + 1)));
      stops = (sym (ap length none_made), over.calm);
    }

    pub begins_again : f.outcome ≡ None → a + 1 < p.attempts → Stands faults p ds (begun_as f (a + 1))
    begins_again goes_on more = record {
      of = record {
        plan = over.made.of.plan;
        ready = over.made.of.ready;
        room = over.made.of.room;
        entries = let long = length-append f.history (own ∷ []) in let room = over.made.room in omega (arith, long, room);
      };
      drawn = over.made.drawn;
      state = subst (λ (o : Option Outcome). IsAt faults ds (begun_as f (a + 1)) o (Some (a + 1))) (sym goes_on) (at_work more);
    }

    pub ends_failed : a + 1 ≡ p.attempts → Stands faults p ds (ended_as f outcome.Overflow)
    ends_failed last =
        ended_stands faults p ds f outcome.Overflow over.made.of over.made.room over.made.drawn (
          whole,
          (let count = length-lists own (f.history ++ own ∷ []) in let is = begun_is in
              let plan = ap (λ (q : Sizes). q.attempts) over.made.of.plan in omega (arith, count, is, plan, last)),
          all_before faults p ds f a all over.made failed,
          over.calm,
        )

  pub ends_shuffled : is_finished f.plan (ds a) (turns_made f) ≡ true → is_good (verdict f.plan (ds a) (turns_made f)) ≡ true
      → Stands faults p ds (ended_as f (outcome.Shuffled a))
  ends_shuffled finished good =
      let h = turns_made f in
      let hs = lists_before f in
      let number = number_is faults p ds f a all over.made in
      ended_stands faults p ds f (outcome.Shuffled a) over.made.of over.made.room over.made.drawn (
        whole,
        subst (λ (q : Sizes). a < q.attempts) (sym over.made.of.plan) over.made.planned,
        ap (good_attempt f.plan ds 0) (lists_are faults p ds f a all over.made) ∙ good_attempt-push f.plan ds 0 hs h over.made.earlier
            ∙ ap (λ (n : ℕ). if is_finished f.plan (ds n) h then (if is_good (verdict f.plan (ds n) h) then Some n else None) else None) number
            ∙ ap (λ (t : Bool). if t then (if is_good (verdict f.plan (ds a) h) then Some a else None) else None) finished
            ∙ ap (λ (t : Bool). if t then Some a else None) good,
        (let count = length-lists own (f.history ++ own ∷ []) in let is = begun_is in omega (arith, count, is)),
        over.calm,
      )

-- a floor in an attempt
module _ {V : Type 0} (faults : V → ℕ) (p : Sizes) (ds : ℕ → Draw) (f : Parts V) (stands : Stands faults p ds f) (some : f.attempt ≢ None)
    (room : length f.history < f.room)
  where
    abbrev n : ℕ
    n = attempt_begun f

    work : IsAtWork faults ds f n
    work = (working faults ds f f.outcome f.attempt stands.state some).1

    -- so many of its turns
    made_by : (made : List Access) → spread f.plan (ds n) n (take (work.done + 1) (turns_made f)) ≡ made → HasMade p ds f n made
    made_by made is = record {
      of = stands.of;
      room = room;
      drawn = stands.drawn;
      begun = let one = work.some_begun in omega (arith, one);
      planned = subst (λ (q : Sizes). n < q.attempts) stands.of.plan work.planned;
      earlier = work.earlier;
      trace = work.traced ∙ ap (λ (t : List Access). (load f.plan ++ attempts f.plan ds 0 (lists_before f)) ++ t) is;
    }

    nobody : f.plan.workers + 1 ≢ f.plan.workers
    nobody same = absurd (omega (arith, same))

    pub all_made : f.stop ≡ None → HasMade p ds f n (spread f.plan (ds n) n (turns_made f))
    all_made runs = record {
      of = stands.of;
      room = room;
      drawn = stands.drawn;
      begun = let one = work.some_begun in omega (arith, one);
      planned = subst (λ (q : Sizes). n < q.attempts) stands.of.plan work.planned;
      earlier = work.earlier;
      trace = traced_is faults ds f n (f.plan.workers + 1) work nobody runs;
    }

    -- the turn that failed
    module _ (inside : work.done < length (turns_made f)) where
      abbrev g : List ℕ
      g = take work.done (turns_made f)

      abbrev w : ℕ
      w = get_or (turns_made f) work.done 0

      abbrev behind : List ℕ
      behind = drop (work.done + 1) (turns_made f)

      front_is : take (work.done + 1) (turns_made f) ≡ g ++ w ∷ []
      front_is = take_more (turns_made f) work.done 0 inside

      long : length g ≡ work.done
      long = length-take-le work.done (turns_made f) (omega (arith, inside))

      turns_go_on : turns_made f ≡ (g ++ w ∷ []) ++ behind
      turns_go_on = sym (take-append-drop (work.done + 1) (turns_made f)) ∙ ap (λ (xs : List ℕ). xs ++ behind) front_is

      next_is : next f.plan.b g w ≡ event_at f.plan.b (turns_made f) work.done
      next_is =
          sym (event_at-append f.plan.b (g ++ w ∷ []) behind (length g) (let more = length-append g (w ∷ []) in omega (arith, more)))
          ∙ ap (λ (xs : List ℕ). event_at f.plan.b xs (length g)) (sym turns_go_on) ∙ ap (event_at f.plan.b (turns_made f)) long

      spread_ends : spread f.plan (ds n) n (take (work.done + 1) (turns_made f))
          ≡ spread f.plan (ds n) n g ++ option_to_list (asked f.plan n (event_at f.plan.b (turns_made f) work.done))
      spread_ends =
          ap (spread f.plan (ds n) n) front_is ∙ spread-push f.plan (ds n) n g w work.spread.runs
          ∙ ap (λ (e : Event). spread f.plan (ds n) n g ++ option_to_list (asked f.plan n e)) next_is

      attempt_begins : Begins (spread f.plan (ds n) n (take (work.done + 1) (turns_made f))) (attempt_trace f.plan (ds n) n (turns_made f))
      attempt_begins =
          let more = spread-begins f.plan (ds n) n (take (work.done + 1) (turns_made f)) behind in
          let last = rest f.plan (ds n) n (turns_made f) (failing f.plan (ds n) (order f.plan.b (turns_made f))) in (
            more.0 ++ last,
            ap (λ (xs : List ℕ). spread f.plan (ds n) n xs ++ last) (sym (take-append-drop (work.done + 1) (turns_made f)))
                ∙ ap (λ (t : List Access). t ++ last) more.1
                ∙ append_assoc (spread f.plan (ds n) n (take (work.done + 1) (turns_made f))) more.0 last,
          )

      ends_with : (access : Access) → asked f.plan n (event_at f.plan.b (turns_made f) work.done) ≡ Some access
          → EndsWith (spread f.plan (ds n) n (take (work.done + 1) (turns_made f))) access
      ends_with access asks = (
        spread f.plan (ds n) n g,
        spread_ends ∙ ap (λ (o : Option Access). spread f.plan (ds n) n g ++ option_to_list o) asks,
      )

    abbrev taken : List Access
    taken = spread f.plan (ds n) n (take (work.done + 1) (turns_made f))

    pub turn_fault : (number : ℕ) → f.stop ≡ Some (stop.DeviceFault number) → Stands faults p ds (ended_as f (outcome.DeviceFault number))
    turn_fault number stopped =
        let why = subst (λ (s : Option Stop). StopsAt faults (ds n) n f work.done s) stopped work.stops in
        let access = why.1.0 in
        subst (λ (k : ℕ). Stands faults p ds (ended_as f (outcome.DeviceFault k))) why.1.2
        (ends_at_fault faults p ds f n taken (made_by taken refl) access (attempt_begins why.0) (ends_with why.0 access why.1.1) why.2)

    pub turn_tampered : (number : ℕ) → f.stop ≡ Some (stop.Tampered number) → Stands faults p ds (ended_as f (outcome.Tampered number))
    turn_tampered number stopped =
        let why = subst (λ (s : Option Stop). StopsAt faults (ds n) n f work.done s) stopped work.stops in
        let access = access_of f.plan n Reads (at Input number) in
        subst (λ (k : ℕ). Stands faults p ds (ended_as f (outcome.Tampered k))) (zero-add number)
        (ends_tampered faults p ds f n taken (made_by taken refl) access (attempt_begins why.0) (ends_with why.0 access (ap (asked f.plan n) why.1)) why.3 refl refl why.2)

    -- an exchange that overflowed
    module _ (j : ℕ) (stopped : f.stop ≡ Some (stop.StashOverflow j)) where
      why : StopsAt faults (ds n) n f work.done (Some (stop.StashOverflow j))
      why = subst (λ (s : Option Stop). StopsAt faults (ds n) n f work.done s) stopped work.stops

      now : exchanged (next f.plan.b (g why.0) (w why.0)) ≡ Some j
      now = ap exchanged (next_is why.0 ∙ why.1)

      all_kept : Keeps f.plan (ds n) n (g why.0 ++ w why.0 ∷ []) ((g why.0 ++ w why.0 ∷ []) ++ behind why.0)
      all_kept =
          keeps f.plan (ds n) n (g why.0 ++ w why.0 ∷ []) (behind why.0)
          (finished-now f.plan (ds n) (g why.0) (w why.0) j work.spread.runs now why.2)

      verdict_is : verdict f.plan (ds n) (turns_made f) ≡ verdicts.StashOverflow j
      verdict_is =
          ap (verdict f.plan (ds n)) (turns_go_on why.0) ∙ all_kept.verdict_same
          ∙ verdict-now f.plan (ds n) (g why.0) (w why.0) j work.spread.runs now why.2

      pub has_failed : is_failed f.plan (ds n) (turns_made f) ≡ true
      has_failed =
          ap (λ (v : Verdict). if is_finished f.plan (ds n) (turns_made f) then (if is_good v then false else true) else false) verdict_is
          ∙ ap (λ (t : Bool). if t then true else false) (ap (is_finished f.plan (ds n)) (turns_go_on why.0) ∙ all_kept.finished)

      trace_is : spread f.plan (ds n) n (take (work.done + 1) (turns_made f)) ≡ attempt_trace f.plan (ds n) n (turns_made f)
      trace_is =
          ap (spread f.plan (ds n) n) (front_is why.0) ∙ sym (append-nil (spread f.plan (ds n) n (g why.0 ++ w why.0 ∷ [])))
          ∙ ap (λ (o : Option ℕ). spread f.plan (ds n) n (g why.0 ++ w why.0 ∷ []) ++ rest f.plan (ds n) n (g why.0 ++ w why.0 ∷ []) o)
          (sym (failing-by f.plan (ds n) (g why.0) (w why.0) j work.spread.runs now true why.2))
          ∙ sym all_kept.trace_same ∙ ap (attempt_trace f.plan (ds n) n) (sym (turns_go_on why.0))

      pub is_over : IsOver faults p ds f n
      is_over = record { made = made_by (attempt_trace f.plan (ds n) n (turns_made f)) trace_is; calm = why.3 }

-- the drain comes where no exchange failed and all chunks are written
pub drain_follows : (p : Sizes) (d : Draw) (a : ℕ) (h : List ℕ) → failing p d (order p.b h) ≡ None → is_finished p d h ≡ true
    → attempt_trace p d a h ≡ spread p d a h ++ drain p d a (left p d (order p.b h))
drain_follows p d a h good finished =
    ap (λ (o : Option ℕ). spread p d a h ++ rest p d a h o) good
    ∙ ap (λ (t : Bool). spread p d a h ++ (if t then drain p d a (left p d (order p.b h)) else [])) finished

-- a run that ends in the load
module _ {V : Type 0} (faults : V → ℕ) (p : Sizes) (ds : ℕ → Draw) (f : Parts V) (loading : IsLoading p ds f) where
  none_before : lists f.plan.workers (f.history ++ f.plan.workers ∷ []) ≡ []
  none_before = lists-first f.plan.workers f.history loading.none_begun

  pub batch_fails : faults f.recorder.device ≡ f.faults → Stands faults p ds (ended_as f outcome.BatchFailed)
  batch_fails calm = ended_stands faults p ds f outcome.BatchFailed loading.of loading.room loading.drawn (none_before, loading.trace, calm)

  pub load_fails : (access : Access) → EndsWith f.recorder.trace access → Rose f.faults (faults f.recorder.device)
      → Stands faults p ds (ended_as f (outcome.DeviceFault (slot_number f.plan access)))
  load_fails access ends rose =
      ended_stands faults p ds f (outcome.DeviceFault (slot_number f.plan access)) loading.of loading.room loading.drawn (
        (
          loading.trace.0,
          ap (λ (l : List (List ℕ)). load f.plan ++ attempts f.plan ds 0 l) none_before ∙ append-nil (load f.plan) ∙ loading.trace.1,
        ),
        (access, ends, refl),
        rose,
      )
