-- How the rest of an attempt ends on a floor.
use Rattle.std.proofs.Common.{◌≡◌, ◌≢◌, ℕ, suc, ◌+◌, ◌-◌, ◌*◌, ◌<◌, ◌≤◌, Bool, true, false, cond, List, [], ◌∷◌, ◌++◌, length, take, map, Option, Some, None, Result, Ok, Err, refl, sym, ap, ◌∙◌, subst, arith, append-nil, append_assoc, length-append, inl, inr}
use Rattle.std.specs.Prelude.{find, unwrap_or}
use Rattle.std.specs.List.{range_with_len}
use Rattle.std.proofs.lemmas.Bool.{cases_lt}
use Rattle.std.proofs.lemmas.List.{length-map, map-append, take_all}
use Rattle.std.proofs.lemmas.List.FromFn.{length-range_with_len, map-range_with_len_more}
use Rattle.std.proofs.Math.Nat.{suc-mul, mul-le-mul_right}
use Rattle.esa_device.specs.Recording.{Recorded}
use Rattle.esa_floor.specs.Ends.{HasMade, IsOver}
use Rattle.esa_floor.specs.Keeping.{AreChunksStored, HasInput, QueuesHold, SlotsHold}
use Rattle.esa_floor.specs.Parts.{Parts}
use Rattle.esa_floor.specs.Standing.{IsAt, IsAtWork, IsOf, IsSpread, StopsAt, lists_before, turns_made}
use Rattle.esa_floor.specs.Written.{attempt_turns}
use Rattle.esa_floor.proofs.Lasting.{turns-made}
use Rattle.esa_spec.specs.Fronts.{items_in}
use Rattle.esa_floor.specs.declared.turn.Outcome.{Outcome}
use Rattle.esa_floor.specs.declared.turn.Stop.{Stop}
use Rattle.esa_laws.proofs.FinishLaws.{finished-where, none-found}
use Rattle.esa_laws.proofs.HistoryLaws.{length-lists}
use Rattle.esa_laws.proofs.LengthLaws.{attempts-le, spread-le}
use Rattle.esa_laws.proofs.Ranges.{below-add}
use Rattle.esa_laws.proofs.SpreadLaws.{find-below}
use Rattle.esa_outside.specs.Cause.{Rose}
use Rattle.esa_params.specs.Sizes.{Sizes, below}
use Rattle.esa_params.specs.Slots.{at, greatest_trace}
use Rattle.esa_params.specs.declared.slot.Access.{Access}
use Rattle.esa_spec.specs.Draws.{Draw, IsDrawn}
use Rattle.esa_report.specs.declared.item.Item.{Item}
use Rattle.esa_spec.specs.Histories.{begun}
use Rattle.esa_spec.specs.Lines.{queued}
use Rattle.esa_spec.specs.Traces.{attempt_trace, attempts, compression, drain, is_failed, load, rest, spread, walk, written_input, written_tail}
use Rattle.esa_spec.specs.Turns.{order, writes}
use Rattle.esa_spec.specs.Verdicts.{drained, failing, first_bad, is_finished, is_good, is_left, left, settled, step_verdict, steps, verdict}
use Rattle.esa_spec.specs.declared.event.Verdict.{Verdict}
use Rattle.esa_spec.specs.declared.event.Verdict.TheVariants as verdict
use Rattle.esa_stash.specs.Stash.{Held, queue_at}
use Rattle.esa_vault.specs.declared.fault.VaultFault.{VaultFault}
use Rattle.esa_vault.specs.declared.fault.VaultFault.TheVariants.{Device, Tampered}
use Rattle.esa_press.specs.Contents.{AreQueued}
use Rattle.esa_press.specs.Drained.{AreDrained, DrainEnd}
use Rattle.esa_press.specs.Over.{HasFailed, IsCut, IsDistributed}
use Rattle.esa_press.specs.Stepped.{AreMade, EndsSteps}
use Rattle.esa_press.specs.declared.halt.Halt.{Halt}
use Rattle.esa_press.specs.declared.halt.Halt.TheVariants as halt

-- the accesses of an attempt whose chunks are all written, and its verdict
module _ (p : Sizes) (d : Draw) (a : ℕ) (h : List ℕ) (runs : failing p d (order p.b h) ≡ None) (wrote : writes p.b h ≡ p.b * p.b) where
  abbrev o : List ℕ
  o = order p.b h

  pub finished : is_finished p d h ≡ true
  finished = finished-where p d h wrote

  pub verdict_is : verdict p d h ≡ drained p d (left p d o)
  verdict_is = ap (settled p d o) runs

  pub accesses_are : attempt_trace p d a h ≡ spread p d a h ++ drain p d a (left p d o)
  accesses_are =
      ap (λ (k : Option ℕ). spread p d a h ++ rest p d a h k) runs
      ∙ ap (λ (c : Bool). spread p d a h ++ cond c (drain p d a (left p d o)) []) finished

  pub failed_by : is_good (verdict p d h) ≡ false → is_failed p d h ≡ true
  failed_by bad =
      ap (λ (c : Bool). cond c (cond (is_good (verdict p d h)) false true) false) finished
      ∙ ap (λ (c : Bool). cond c false true) bad

-- a list of tails begins a longer one
tails_begin : (f : ℕ → Access) (m n : ℕ) → m ≤ n → map f (below n) ≡ map f (below m) ++ map f (range_with_len m (n - m))
tails_begin f m n within =
    let whole : n ≡ m + (n - m) = omega arith in
    ap (λ (k : ℕ). map f (below k)) whole ∙ ap (map f) (below-add m (n - m)) ∙ map-append f (below m) (range_with_len m (n - m))

-- the first target of which too much is left comes behind those that were looked at
behind : (f : ℕ → Bool) (b n : ℕ) (l : Option ℕ) → find f (below b) ≡ l → n ≤ b → find f (below n) ≡ None → n ≤ unwrap_or l b
behind f b n None is within none = within
behind f b n (Some m) is within none = elim (cases_lt m n) [
  | inl sooner ↦ absurd (let passes = (find-below f b m is).1 in let fails = none-found f n none m sooner in cc (passes, fails))
  | inr past ↦ past
]

module _ {V : Type 0} (faults : V → ℕ) (p : Sizes) (ds : ℕ → Draw) (f : Parts V) (a : ℕ) (ready : IsDistributed faults p ds f a) where
  abbrev d : Draw
  d = ds a

  abbrev h : List ℕ
  h = turns_made f

  abbrev before : List Access
  before = load f.plan ++ attempts f.plan ds 0 (lists_before f)

  outcome_is : (o : Option Outcome) → IsAt faults ds f o (Some a) → o ≡ None
  outcome_is None at = refl
  outcome_is (Some o) at = absurd (let never = at.0 in cc)

  goes_on : f.outcome ≡ None
  goes_on = outcome_is f.outcome (subst (λ (t : Option ℕ). IsAt faults ds f f.outcome t) ready.attempt ready.stands.state)

  at_work : IsAtWork faults ds f a
  at_work = subst (λ (o : Option Outcome). IsAt faults ds f o (Some a)) goes_on (subst (λ (t : Option ℕ). IsAt faults ds f f.outcome t) ready.attempt ready.stands.state)

  why : StopsAt faults d a f at_work.done None
  why = subst (λ (s : Option Stop). StopsAt faults d a f at_work.done s) ready.runs at_work.stops

  whole : take at_work.done h ≡ h
  whole = take_all at_work.done h (let all = why.0 in omega (arith, all))

  pub spread_is : IsSpread f.plan d h f.stash f.counts f.counted
  spread_is = subst (λ (g : List ℕ). IsSpread f.plan d g f.stash f.counts f.counted) whole at_work.spread

  pub drawn_is : IsDrawn f.plan d
  drawn_is = subst (λ (q : Sizes). IsDrawn q d) (sym ready.stands.of.plan) (ready.stands.drawn a (subst (λ (q : Sizes). a < q.attempts) ready.stands.of.plan at_work.planned))

  pub planned_is : a < f.plan.attempts
  planned_is = at_work.planned

  pub ready_is : f.recorder.plan ≡ Some f.plan
  ready_is = ready.stands.of.ready ∙ ap Some (sym ready.stands.of.plan)

  traced : f.recorder.trace ≡ before ++ spread f.plan d a h
  traced = at_work.traced ∙ ap (λ (g : List ℕ). before ++ spread f.plan d a g) (take_all (at_work.done + 1) h (let all = why.0 in omega (arith, all)))

  wrote : writes f.plan.b h ≡ f.plan.b * f.plan.b
  wrote = sym spread_is.writes ∙ ready.all

  begun_is : begun f.plan.workers f.history ≡ a + 1
  begun_is = let is = at_work.attempt in let some = at_work.some_begun in omega (arith, is, some)

  some_attempt : f.attempt ≢ None
  some_attempt never = let clash : Some a ≡ None = sym ready.attempt ∙ never in cc clash

  -- what its queues and the slots of its chunks hold
  pub queues_are : (record_of : ℕ → Item) → HasInput f record_of → QueuesHold ds f → AreQueued f.plan d h record_of f.stash
  queues_are record_of input holds = λ i i_in.
      subst (λ (b : ℕ). queue_at f.stash i ≡ map record_of (queued f.plan (ds b) (order f.plan.b h) (length (order f.plan.b h)) i)) (sym at_work.attempt)
      (holds record_of input some_attempt ready.runs i i_in)

  pub chunks_are : (record_of : ℕ → Item) → HasInput f record_of → SlotsHold ds f → AreChunksStored f.plan f.run a d record_of h f.recorder.log
  chunks_are record_of input holds =
      subst (λ (b : ℕ). AreChunksStored f.plan f.run b (ds b) record_of h f.recorder.log) (sym at_work.attempt) (holds record_of input some_attempt ready.runs)

  -- its turns are those that the history has of the attempt, before a drain and after
  pub turns_are : attempt_turns f a ≡ h
  turns_are = ap (attempt_turns f) at_work.attempt ∙ turns-made f at_work.some_begun

  still_turns : (new : Parts V) → new ≡ record f { recorder = new.recorder; stash = new.stash } → attempt_turns new a ≡ turns_made new
  still_turns new same = subst (λ (x : Parts V). attempt_turns x a ≡ turns_made x) (sym same) turns_are

  pub turns_behind : (new : Parts V) (result : Result (Unit {0}) Halt) → DrainEnd faults d (order f.plan.b h) a f new result → attempt_turns new a ≡ turns_made new
  turns_behind new (Ok done) end = still_turns new end.1.others
  turns_behind new (Err (halt.Verdict v)) end = still_turns new end.3.others
  turns_behind new (Err (halt.Fault (Device number))) end = still_turns new end.3.others
  turns_behind new (Err (halt.Fault (Tampered number))) never = absurd never

  -- what the load, the attempts before and the turns have left of the most that a shuffle makes
  left_over : (b x n trace room earlier last : ℕ) → 3 * b + n * x ≤ trace + room → trace ≡ (b + earlier) + last
      → earlier ≤ a * x → last ≤ b + b * b → a * x + x ≤ n * x → x ≡ 2 * b * b + 4 * b → b + (b * (b + 1) + b) ≤ room
  left_over b x n trace room earlier last most is few spread within same = omega (arith, most, is, few, spread, within, same)

  pub room_is : f.plan.b + (f.plan.b * (f.plan.b + 1) + f.plan.b) ≤ f.recorder.room
  room_is =
      let b = f.plan.b in
      let x = 2 * b * b + 4 * b in
      let most = subst (λ (q : Sizes). greatest_trace q ≤ length f.recorder.trace + f.recorder.room) (sym ready.stands.of.plan) ready.stands.of.room in
      let loaded = length-append (load f.plan) (attempts f.plan ds 0 (lists_before f)) in
      let many = length-map (below b) (written_input f.plan) ∙ length-range_with_len 0 b in
      let long = ap length traced ∙ length-append before (spread f.plan d a h) in
      let count = length-lists f.plan.workers f.history in
      let attempt = at_work.attempt in
      let same : length (lists_before f) ≡ a = count ∙ sym attempt in
      let next = suc-mul a x in
      let product = mul-le-mul_right {m = suc a} {n = f.plan.attempts} x planned_is in
      let rows : a * x + x ≤ f.plan.attempts * x = omega (arith, next, product) in
      left_over b x f.plan.attempts (length f.recorder.trace) f.recorder.room (length (attempts f.plan ds 0 (lists_before f))) (length (spread f.plan d a h))
      most (long ∙ ap (λ (n : ℕ). n + length (spread f.plan d a h)) (loaded ∙ ap (λ (n : ℕ). n + length (attempts f.plan ds 0 (lists_before f))) many))
      (subst (λ (n : ℕ). length (attempts f.plan ds 0 (lists_before f)) ≤ n * x) same (attempts-le f.plan ds 0 (lists_before f)))
      (spread-le f.plan d a h) rows refl

  -- the same floor with more accesses
  module _ (r : Recorded V) (s : Held) (more : List Access) (trace : r.trace ≡ f.recorder.trace ++ more) (room : f.recorder.room ≡ r.room + length more) (plan : r.plan ≡ f.recorder.plan) where
    abbrev g : Parts V
    g = record f { recorder = r; stash = s }

    of_more : IsOf p g
    of_more = record {
      plan = ready.stands.of.plan;
      ready = plan ∙ ready.stands.of.ready;
      room = let most = ready.stands.of.room in let long = ap length trace ∙ length-append f.recorder.trace more in omega (arith, most, long, room);
      entries = ready.stands.of.entries;
    }

    pub made_more : HasMade p ds g a (spread f.plan d a h ++ more)
    made_more = record {
      of = of_more;
      room = ready.room;
      drawn = ready.stands.drawn;
      begun = begun_is;
      planned = subst (λ (q : Sizes). a < q.attempts) ready.stands.of.plan planned_is;
      earlier = at_work.earlier;
      trace = trace ∙ ap (λ (t : List Access). t ++ more) traced ∙ append_assoc before (spread f.plan d a h) more;
    }

    -- those were all
    pub over_then : more ≡ drain f.plan d a (left f.plan d (order f.plan.b h)) → faults r.device ≡ faults f.recorder.device → IsOver faults p ds g a
    over_then all calm = record {
      made = subst (λ (l : List Access). HasMade p ds g a l) (ap (λ (l : List Access). spread f.plan d a h ++ l) all ∙ sym (accesses_are f.plan d a h spread_is.runs wrote)) made_more;
      calm = calm ∙ why.1;
    }

    -- they end with this one
    pub cut_then : (front behind : List Access) (access : Access) (fault : VaultFault) → more ≡ front ++ access ∷ []
        → drain f.plan d a (left f.plan d (order f.plan.b h)) ≡ more ++ behind
        → EndsSteps f.plan f.run a (items_in f.plan d (order f.plan.b h) access) f.faults (faults r.device) r.last access fault → IsCut faults p ds g a fault
    cut_then front behind access fault is whole cause = record {
      made = spread f.plan d a h ++ more;
      access = access;
      has_made = made_more;
      begins = (
        behind,
        accesses_are f.plan d a h spread_is.runs wrote ∙ ap (λ (l : List Access). spread f.plan d a h ++ l) whole
            ∙ sym (append_assoc (spread f.plan d a h) more behind),
      );
      ends = (
        spread f.plan d a h ++ front,
        ap (λ (l : List Access). spread f.plan d a h ++ l) is ∙ sym (append_assoc (spread f.plan d a h) front (access ∷ [])),
      );
      cause = cause;
    }

  length_tails : (n : ℕ) → length (map (written_tail f.plan a) (below n)) ≡ n
  length_tails n = length-map (below n) (written_tail f.plan a) ∙ length-range_with_len 0 n

  -- the drain of an attempt, up to where too much is left
  module _ (i : ℕ) (new : Parts V) (at_left : left f.plan d (order f.plan.b h) ≡ Some i) (done : AreDrained faults a i f new) where
    left_accesses : map (written_tail f.plan a) (below i) ≡ drain f.plan d a (left f.plan d (order f.plan.b h))
    left_accesses = sym (append-nil (map (written_tail f.plan a) (below i))) ∙ sym (ap (drain f.plan d a) at_left)

    left_over_is : IsOver faults p ds (record f { recorder = new.recorder; stash = new.stash }) a
    left_over_is =
        over_then new.recorder new.stash (map (written_tail f.plan a) (below i)) done.trace
        (let room = done.room in let many = length_tails i in omega (arith, room, many)) done.ready left_accesses done.calm

    left_fails : (v : Verdict) → v ≡ verdict.StashLeft i → HasFailed faults p ds (record f { recorder = new.recorder; stash = new.stash }) a v
    left_fails v is =
        let ends : verdict f.plan d h ≡ v = verdict_is f.plan d a h spread_is.runs wrote ∙ ap (drained f.plan d) at_left ∙ sym is in
        record {
          over = left_over_is;
          failed = failed_by f.plan d a h spread_is.runs wrote (ap is_good ends ∙ ap is_good is);
          verdict_is = ends;
        }

  pub drain_fails : (new : Parts V) (v : Verdict) → DrainEnd {T = Unit {0}} faults d (order f.plan.b h) a f new (Err (halt.Verdict v)) → HasFailed faults p ds new a v
  drain_fails new v end =
      subst (λ (x : Parts V). HasFailed faults p ds x a v) (sym end.3.others) (left_fails end.0 new end.1 end.3 v end.2)

  -- the write of a tail that failed
  pub drain_cut : (new : Parts V) (fault : VaultFault) → DrainEnd {T = Unit {0}} faults d (order f.plan.b h) a f new (Err (halt.Fault fault)) → IsCut faults p ds new a fault
  drain_cut new (Tampered number) never = absurd never
  drain_cut new (Device number) end =
      let i = end.0 in
      let fails = end.3 in
      let tails = written_tail f.plan a in
      let l = left f.plan d (order f.plan.b h) in
      let least : i + 1 ≤ unwrap_or l f.plan.b = behind (is_left f.plan d (order f.plan.b h)) f.plan.b (i + 1) l refl (let inside = end.1 in omega (arith, inside)) end.2 in
      let more = map tails (range_with_len (i + 1) (unwrap_or l f.plan.b - (i + 1))) in
      subst (λ (x : Parts V). IsCut faults p ds x a (Device number)) (sym fails.others)
      (cut_then new.recorder new.stash (map tails (below (i + 1))) fails.trace
      (let room = fails.room in let many = length_tails (i + 1) in omega (arith, room, many)) fails.ready
      (map tails (below i)) (more ++ compression f.plan d a l) (tails i) (Device number) (map-range_with_len_more tails 0 i i (omega arith))
      (drain_parts l ∙ ap (λ (k : List Access). k ++ compression f.plan d a l) (tails_begin tails (i + 1) (unwrap_or l f.plan.b) least)
      ∙ append_assoc (map tails (below (i + 1))) more (compression f.plan d a l))
      (fails.slot, subst (λ (n : ℕ). Rose n (faults new.recorder.device)) why.1 fails.cause))
    where
      drain_parts : (l : Option ℕ) → drain f.plan d a l ≡ map (written_tail f.plan a) (below (unwrap_or l f.plan.b)) ++ compression f.plan d a l
      drain_parts l = refl

  -- the compression behind a whole drain
  module _ (mid : Parts V) (r : Recorded V) (nothing_left : left f.plan d (order f.plan.b h) ≡ None) (done : AreDrained faults a f.plan.b f mid) where
    abbrev tails : List Access
    tails = map (written_tail f.plan a) (below f.plan.b)

    abbrev made : List Access
    made = walk f.plan d a (steps f.plan)

    drain_is : drain f.plan d a (left f.plan d (order f.plan.b h)) ≡ tails ++ made
    drain_is = ap (drain f.plan d a) nothing_left

    ends_with : verdict f.plan d h ≡ first_bad (map (step_verdict f.plan d) (steps f.plan))
    ends_with = verdict_is f.plan d a h spread_is.runs wrote ∙ ap (drained f.plan d) nothing_left

    -- the accesses of both, where so many were made and the total of the compression stays
    module _ (some : List Access) (trace : r.trace ≡ mid.recorder.trace ++ some) (plan : r.plan ≡ mid.recorder.plan)
        (total : length r.trace + r.room ≡ length mid.recorder.trace + mid.recorder.room)
      where
        both_trace : r.trace ≡ f.recorder.trace ++ (tails ++ some)
        both_trace = trace ∙ ap (λ (l : List Access). l ++ some) done.trace ∙ append_assoc f.recorder.trace tails some

        both_room : f.recorder.room ≡ r.room + length (tails ++ some)
        both_room =
            let room = done.room in
            let many = length_tails f.plan.b in
            let parts = length-append tails some in
            let long = ap length trace ∙ length-append mid.recorder.trace some in
            omega (arith, room, many, parts, long, total)

        pub pressed_over : some ≡ made → faults r.device ≡ faults mid.recorder.device → IsOver faults p ds (record f { recorder = r; stash = mid.stash }) a
        pressed_over all calm =
            over_then r mid.stash (tails ++ some) both_trace both_room (plan ∙ done.ready) (ap (λ (l : List Access). tails ++ l) all ∙ sym drain_is) (calm ∙ done.calm)

        pub pressed_cut : (front behind : List Access) (access : Access) (fault : VaultFault) → some ≡ front ++ access ∷ [] → made ≡ front ++ access ∷ behind
            → EndsSteps f.plan f.run a (items_in f.plan d (order f.plan.b h) access) (faults mid.recorder.device) (faults r.device) r.last access fault
            → IsCut faults p ds (record f { recorder = r; stash = mid.stash }) a fault
        pressed_cut front behind access fault is whole cause =
            cut_then r mid.stash (tails ++ some) both_trace both_room (plan ∙ done.ready) (tails ++ front) behind access fault
            (ap (λ (l : List Access). tails ++ l) is ∙ sym (append_assoc tails front (access ∷ [])))
            (drain_is ∙ ap (λ (l : List Access). tails ++ l) (whole ∙ sym (append_assoc front (access ∷ []) behind) ∙ ap (λ (l : List Access). l ++ behind) (sym is))
            ∙ sym (append_assoc tails some behind))
            (subst (λ (n : ℕ). EndsSteps f.plan f.run a (items_in f.plan d (order f.plan.b h) access) n (faults r.device) r.last access fault) (done.calm ∙ why.1) cause)

  -- what is said of the compression, on a floor that was drained
  abbrev pub Goes : Parts V → Recorded V → Type 0
  Goes x r = (r.plan ≡ x.recorder.plan) × (length r.trace + r.room ≡ length x.recorder.trace + x.recorder.room)

  abbrev pub Made : Parts V → Recorded V → Result (Unit {0}) Halt → Type 0
  Made x r result = AreMade faults x.plan x.run d (order x.plan.b (turns_made x)) a (steps x.plan) x.recorder r result

  abbrev Good : Parts V → Recorded V → Type 0
  Good x r = IsOver faults p ds (record x { recorder = r }) a × (is_finished x.plan d (turns_made x) ≡ true) × (is_good (verdict x.plan d (turns_made x)) ≡ true)

  module _ (nothing_left : left f.plan d (order f.plan.b h) ≡ None) (m : Recorded V) (s : Held) (r : Recorded V) where
    abbrev mid : Parts V
    mid = record f { recorder = m; stash = s }

    good_here : (again : Unit {0}) → AreDrained faults a f.plan.b f mid → Made mid r (Ok again) → Goes mid r → Good mid r
    good_here again done steps_made goes = (
      pressed_over mid r nothing_left done (walk f.plan d a (steps f.plan)) steps_made.1 goes.0 goes.1 refl steps_made.2,
      finished f.plan d a h spread_is.runs wrote,
      ap is_good (ends_with mid r nothing_left done ∙ steps_made.0),
    )

    bad_here : (v : Verdict) → AreDrained faults a f.plan.b f mid → Made mid r (Err (halt.Verdict v)) → Goes mid r → HasFailed faults p ds (record mid { recorder = r }) a v
    bad_here v done steps_made goes =
        let ends : verdict f.plan d h ≡ v = ends_with mid r nothing_left done ∙ steps_made.0 in
        record {
          over = pressed_over mid r nothing_left done (walk f.plan d a (steps f.plan)) steps_made.2 goes.0 goes.1 refl steps_made.3;
          failed = failed_by f.plan d a h spread_is.runs wrote (ap is_good ends ∙ steps_made.1);
          verdict_is = ends;
        }

    cut_here : (fault : VaultFault) → AreDrained faults a f.plan.b f mid → Made mid r (Err (halt.Fault fault)) → Goes mid r → IsCut faults p ds (record mid { recorder = r }) a fault
    cut_here fault done steps_made goes =
        pressed_cut mid r nothing_left done (steps_made.0 ++ steps_made.1 ∷ []) steps_made.4 goes.0 goes.1 steps_made.0 steps_made.2 steps_made.1 fault refl steps_made.3 steps_made.5

  pub press_good : (x : Parts V) (r : Recorded V) (done again : Unit {0}) → DrainEnd faults d (order f.plan.b h) a f x (Ok done) → Made x r (Ok again) → Goes x r → Good x r
  press_good x r done again end =
      subst (λ (x : Parts V). Made x r (Ok again) → Goes x r → Good x r) (sym end.1.others)
      (good_here end.0 x.recorder x.stash r again (subst (λ (x : Parts V). AreDrained faults a f.plan.b f x) end.1.others end.1))

  pub press_bad : (x : Parts V) (r : Recorded V) (done : Unit {0}) (v : Verdict) → DrainEnd faults d (order f.plan.b h) a f x (Ok done) → Made x r (Err (halt.Verdict v)) → Goes x r
      → HasFailed faults p ds (record x { recorder = r }) a v
  press_bad x r done v end =
      subst (λ (x : Parts V). Made x r (Err (halt.Verdict v)) → Goes x r → HasFailed faults p ds (record x { recorder = r }) a v) (sym end.1.others)
      (bad_here end.0 x.recorder x.stash r v (subst (λ (x : Parts V). AreDrained faults a f.plan.b f x) end.1.others end.1))

  pub press_cut : (x : Parts V) (r : Recorded V) (done : Unit {0}) (fault : VaultFault) → DrainEnd faults d (order f.plan.b h) a f x (Ok done) → Made x r (Err (halt.Fault fault)) → Goes x r
      → IsCut faults p ds (record x { recorder = r }) a fault
  press_cut x r done fault end =
      subst (λ (x : Parts V). Made x r (Err (halt.Fault fault)) → Goes x r → IsCut faults p ds (record x { recorder = r }) a fault) (sym end.1.others)
      (cut_here end.0 x.recorder x.stash r fault (subst (λ (x : Parts V). AreDrained faults a f.plan.b f x) end.1.others end.1))
