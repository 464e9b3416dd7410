-- The turns that an attempt takes of its completed list.
use Rattle.std.proofs.Common.{◌≡◌, ◌≢◌, ℕ, zero, suc, ◌+◌, ◌*◌, ◌<◌, ◌≤◌, Bool, true, false, List, [], ◌∷◌, ◌++◌, length, take, get_or, Option, Some, None, Result, Ok, Err, refl, sym, ap, ◌∙◌, subst, arith, take_all, take-take, append_assoc, length-append, inl, inr}
use Rattle.std.specs.Option.{option_to_list}
use Rattle.std.specs.Prelude.{All, OnOk, is_some, ◌||◌, ◌==◌, ◌⊎◌}
use Rattle.std.proofs.lemmas.List.{length-take, take_at}
use Rattle.std.proofs.lemmas.Bool.{cases_lt}
use Rattle.std.proofs.lemmas.List.Elements.{All-append, All-head, All-tail, All-take}
use Rattle.esa_laws.proofs.FinishLaws.{All-below, All-nil, completes, completes-shortest}
use Rattle.esa_device.specs.Recording.{Recorded}
use Rattle.esa_ending.specs.Seen.{EndsWithTurn, IsBehind}
use Rattle.esa_laws.proofs.SpreadLaws.{spread-push}
use Rattle.esa_laws.proofs.Tests.{equal}
use Rattle.esa_params.specs.Sizes.{Sizes, below}
use Rattle.esa_params.specs.Slots.{access_of, at}
use Rattle.esa_params.specs.declared.slot.Access.{Access}
use Rattle.esa_params.specs.declared.slot.Op.TheVariants.{Read as Reads}
use Rattle.esa_params.specs.declared.slot.Region.TheVariants.{Input}
use Rattle.esa_spec.specs.Completion.{again, completed, full, turns_needed}
use Rattle.esa_envelope.specs.declared.keys.Keys.{Keys}
use Rattle.esa_spec.specs.Draws.{Draw, drawn}
use Rattle.esa_spec.specs.Fronts.{EndsWith}
use Rattle.esa_spec.specs.Traces.{asked, spread}
use Rattle.esa_spec.specs.Turns.{event_at, next, order, writes}
use Rattle.esa_spec.specs.Verdicts.{failing, is_finished}
use Rattle.esa_spec.specs.declared.event.Verdict.{Verdict}
use Rattle.esa_vault.specs.declared.fault.VaultFault.{VaultFault}
use Rattle.esa_floor.specs.Marks.{roots_of}
use Rattle.esa_floor.specs.Parts.{Parts, begun_as}
use Rattle.esa_floor.specs.Keeping.{StopsAfter}
use Rattle.esa_floor.specs.Standing.{Stands, StopsAt, attempt_begun, turns_made}
use Rattle.esa_floor.specs.declared.turn.Stop.{Stop}
use Rattle.esa_floor.specs.declared.turn.Stop.TheVariants as stop
use Rattle.esa_floor.specs.declared.floor.Roots.{Roots}
use Rattle.esa_floor.specs.Working.{Working}
use Rattle.esa_crew.specs.Posts.{AreMembers, ArePosts, IsMember, IsNewWorker}
use Rattle.esa_crew.specs.Replays.{IsReplayed, IsUnbroken}
use Rattle.esa_floor.proofs.Resting.{working}
use Rattle.esa_floor.proofs.Turning.{spread_is}
use Rattle.esa_shuffle.specs.Attempts.{AddsAttempt, AttemptEnd, EndsBehind, EndsByStop, StopsShort}
use Rattle.esa_shuffle.proofs.Storing.{turns_are}

All-again : (w n : ℕ) → All (λ v. v < w) (again n (below w))
All-again w zero = All-nil w
All-again w (suc n) = All-append (λ v. v < w) (below w) (again n (below w)) (All-below w w (omega arith)) (All-again w n)

-- the turns of a completed list are those of workers
pub All-full : (p : Sizes) (d : Draw) (turns : List ℕ) → All (λ v. v < p.workers) turns → All (λ v. v < p.workers) (full p d turns)
All-full p d turns all =
    All-take (λ v. v < p.workers) (turns_needed p d (completed p turns)) (completed p turns)
    (All-append (λ v. v < p.workers) turns (again (p.b * (p.b + 3)) (below p.workers)) all (All-again p.workers (p.b * (p.b + 3))))

either : (x y : Bool) → x ≡ false → (x || y) ≡ true → y ≡ true
either false y e h = h
either true y e h = absurd (cc)

-- an attempt that isn't finished has not failed
none_failed : (found : Option ℕ) (all : Bool) → (is_some found || all) ≡ false → found ≡ None
none_failed None all off = refl
none_failed (Some k) all off = absurd (cc off)

-- the last entries of the same list are the same
pub last_same : (xs ys : List Access) (x y : Access) → xs ++ x ∷ [] ≡ ys ++ y ∷ [] → x ≡ y
last_same [] [] x y is = cc is
last_same [] (v ∷ ys) x y is = absurd (let long = ap length is in let more = length-append ys (y ∷ []) in omega (arith, long, more))
last_same (u ∷ xs) [] x y is = absurd (let long = ap length is in let more = length-append xs (x ∷ []) in omega (arith, long, more))
last_same (u ∷ xs) (v ∷ ys) x y is = let rest : xs ++ x ∷ [] ≡ ys ++ y ∷ [] = cc is in last_same xs ys x y rest

contrary : (x : Bool) → x ≡ true → x ≡ false → ⊥
contrary x t f = cc

-- an attempt that was begun on f and of which the turns were taken
module _ {V : Type 0} (faults : V → ℕ) (p : Sizes) (ds : ℕ → Draw) (f begun new : Parts V) (a : ℕ) (turns : List ℕ) (is : begun ≡ begun_as f a) (begun_stands : Stands faults p ds begun)
    (replayed : IsReplayed begun.plan (ds (attempt_begun begun)) (attempt_begun begun) turns begun new) (origin : roots_of new ≡ roots_of begun) (stands : Stands faults p ds new)
    (same : new.attempt ≡ begun.attempt) (some : 1 ≤ f.plan.workers) (numbers : All (λ v. v < f.plan.workers) turns)
  where
    abbrev pub whole : List ℕ
    whole = full f.plan (ds a) turns

    begun_at : begun.attempt ≡ Some a
    begun_at = ap (λ (x : Parts V). x.attempt) is

    there : (o : Option ℕ) → o ≡ Some a → o ≢ None
    there o e never = let clash : Some a ≡ None = sym e ∙ never in cc clash

    number_of : (x : Parts V) → Stands faults p ds x → x.attempt ≡ Some a → attempt_begun x ≡ a
    number_of x x_stands at =
        let both : Some (attempt_begun x) ≡ Some a = sym (working faults ds x x.outcome x.attempt x_stands.state (there x.attempt at)).2 ∙ at in cc both

    pub replayed_on : IsReplayed f.plan (ds a) a turns begun new
    replayed_on =
        subst (λ (n : ℕ). IsReplayed f.plan (ds n) n turns begun new) (number_of begun begun_stands begun_at)
        (subst (λ (q : Sizes). IsReplayed q (ds (attempt_begun begun)) (attempt_begun begun) turns begun new) (ap (λ (x : Parts V). x.plan) is) replayed)

    abbrev pub taken : List ℕ
    taken = take replayed_on.count whole

    pub taken_history : new.history ≡ (f.history ++ f.plan.workers ∷ []) ++ taken
    taken_history = replayed_on.history ∙ ap (λ (x : Parts V). x.history ++ taken) is

    plan_is : new.plan ≡ f.plan
    plan_is = ap (λ (r : Roots). r.plan) origin ∙ ap (λ (x : Parts V). x.plan) is

    taken_turns : turns_made new ≡ taken
    taken_turns =
        ap (λ (q : Sizes). turns_made (record new { plan = q })) plan_is
        ∙ turns_are f.plan.workers f.history taken new.history (All-take (λ v. v < f.plan.workers) replayed_on.count whole (All-full f.plan (ds a) turns numbers)) taken_history

    new_at : new.attempt ≡ Some a
    new_at = same ∙ begun_at

    -- where nothing has stopped the turns, all chunks are written
    pub all_written : new.stop ≡ None → new.counted.writes ≡ new.plan.b * new.plan.b
    all_written runs =
        let work = (working faults ds new new.outcome new.attempt stands.state (there new.attempt new_at)).1 in
        let nobody : new.plan.workers + 1 ≢ new.plan.workers = λ clash. absurd (omega (arith, clash)) in
        let spread = spread_is faults ds new (attempt_begun new) (new.plan.workers + 1) work nobody runs in
        let n = attempt_begun new in
        let long = replayed_on.whole (subst IsUnbroken (sym runs) tt) in
        let all : taken ≡ whole = take_all replayed_on.count whole (omega (arith, long)) in
        let finished : is_finished new.plan (ds n) (turns_made new) ≡ true =
        ap (λ (h : List ℕ). is_finished new.plan (ds n) h) (taken_turns ∙ all)
        ∙ ap (λ (q : Sizes). is_finished q (ds n) whole) plan_is ∙ ap (λ (m : ℕ). is_finished f.plan (ds m) whole) (number_of new stands new_at)
        ∙ completes f.plan (ds a) turns some numbers in
        spread.writes
        ∙ equal (writes new.plan.b (turns_made new)) (new.plan.b * new.plan.b)
        (either (is_some (failing new.plan (ds n) (order new.plan.b (turns_made new)))) (writes new.plan.b (turns_made new) == new.plan.b * new.plan.b)
        (ap (λ (o : Option ℕ). is_some o) spread.runs) finished)

    -- the turn at which they stopped made the last access
    module _ (before : List ℕ) (after : StopsAfter faults ds before new) where
      stop_turns : taken ≡ before ++ after.failed ∷ []
      stop_turns = sym taken_turns ∙ after.turns

      one_more : length taken ≡ length before + 1
      one_more = let long = length-append before (after.failed ∷ []) in let same = ap length stop_turns in omega (arith, long, same)

      fewer : length before < length whole
      fewer = let long = one_more in let some_of = length-take replayed_on.count whole in omega (arith, long, some_of)

      in_count : length before ≤ replayed_on.count
      in_count = let long = one_more in let some_of = length-take replayed_on.count whole in omega (arith, long, some_of)

      before_is : take (length before) whole ≡ before
      before_is =
          sym (take-take (length before) replayed_on.count whole in_count) ∙ ap (take (length before)) stop_turns
          ∙ take_at before (after.failed ∷ []) (length before) refl

      runs_before : failing f.plan (ds a) (order f.plan.b before) ≡ None
      runs_before =
          none_failed (failing f.plan (ds a) (order f.plan.b before)) (writes f.plan.b before == f.plan.b * f.plan.b)
          (ap (is_finished f.plan (ds a)) (sym before_is) ∙ completes-shortest f.plan (ds a) turns some numbers (length before) fewer)

      made_last : (made access : Access) → asked f.plan a (next f.plan.b before after.failed) ≡ Some made → EndsWith new.recorder.trace access
          → EndsWithTurn f.plan a (turns_made new) access
      made_last made access asks ends =
          let turn = spread-push f.plan (ds a) a before after.failed runs_before in
          let trace : new.recorder.trace ≡ (begun.recorder.trace ++ spread f.plan (ds a) a before) ++ made ∷ [] =
          replayed_on.trace ∙ ap (λ (h : List ℕ). begun.recorder.trace ++ spread f.plan (ds a) a h) stop_turns
          ∙ ap (λ (t : List Access). begun.recorder.trace ++ t) (turn ∙ ap (λ (o : Option Access). spread f.plan (ds a) a before ++ option_to_list o) asks)
          ∙ sym (append_assoc begun.recorder.trace (spread f.plan (ds a) a before) (made ∷ [])) in
          record {
            before = before;
            worker = after.failed;
            turns = after.turns;
            made = asks ∙ ap Some (last_same (begun.recorder.trace ++ spread f.plan (ds a) a before) ends.0 made access (sym trace ∙ ends.1));
          }

      event_is : event_at new.plan.b (turns_made new) (length before) ≡ next f.plan.b before after.failed
      event_is =
          ap (λ (q : Sizes). event_at q.b (turns_made new) (length before)) plan_is ∙ ap (λ (h : List ℕ). event_at f.plan.b h (length before)) after.turns

      asks_is : asked new.plan (attempt_begun new) (event_at new.plan.b (turns_made new) (length before)) ≡ asked f.plan a (next f.plan.b before after.failed)
      asks_is =
          ap (λ (q : Sizes). asked q (attempt_begun new) (event_at new.plan.b (turns_made new) (length before))) plan_is
          ∙ ap (λ (n : ℕ). asked f.plan n (event_at new.plan.b (turns_made new) (length before))) (number_of new stands new_at)
          ∙ ap (asked f.plan a) event_is

      broke : (number : ℕ) → (new.stop ≡ Some (stop.DeviceFault number)) ⊎ (new.stop ≡ Some (stop.Tampered number)) → (access : Access) → EndsWith new.recorder.trace access
          → EndsWithTurn f.plan a (turns_made new) access
      broke number stopped access ends = elim stopped [
        | inl failed ↦
            let why = subst (λ (s : Option Stop). StopsAt faults (ds (attempt_begun new)) (attempt_begun new) new (length before) s) failed after.stops in
            made_last why.1.0 access (sym asks_is ∙ why.1.1) ends
        | inr closed ↦
            let why = subst (λ (s : Option Stop). StopsAt faults (ds (attempt_begun new)) (attempt_begun new) new (length before) s) closed after.stops in
            made_last (access_of f.plan a Reads (at Input number)) access (ap (asked f.plan a) (sym event_is ∙ why.1)) ends
      ]

    -- where it is over, all turns were taken
    module _ (last : Parts V) (last_plan : last.plan ≡ new.plan) (last_history : last.history ≡ new.history) where
      last_turns : turns_made last ≡ taken
      last_turns = ap (λ (q : Sizes). turns_made (record last { plan = q })) last_plan ∙ ap (λ (h : List ℕ). turns_made (record new { history = h })) last_history ∙ taken_turns

      all_taken : (result : Result Verdict VaultFault) → AttemptEnd faults p ds a last result → OnOk result (taken ≡ whole)
      all_taken (Ok v) end = elim (cases_lt replayed_on.count (length whole)) [
        | inl fewer ↦ absurd (contrary (is_finished f.plan (ds a) taken)
            (sym (ap (λ (h : List ℕ). is_finished last.plan (ds a) h) last_turns ∙ ap (λ (q : Sizes). is_finished q (ds a) taken) (last_plan ∙ plan_is)) ∙ end.1)
            (completes-shortest f.plan (ds a) turns some numbers replayed_on.count fewer))
        | inr enough ↦ take_all replayed_on.count whole enough
      ]
      all_taken (Err fault) end = tt

      -- and they are all where it ends with a verdict
      pub good_turns : (v : Verdict) (result : Result Verdict VaultFault) → AttemptEnd faults p ds a last result → result ≡ Ok v → turns_made last ≡ whole
      good_turns v result end is = last_turns ∙ subst (λ (r : Result Verdict VaultFault). OnOk r (taken ≡ whole)) is (all_taken result end)

      pub adds : (result : Result Verdict VaultFault) → AttemptEnd faults p ds a last result → AddsAttempt f.plan whole f.history last.history result
      adds result end = record {
        count = replayed_on.count;
        history = last_history ∙ taken_history;
        whole = all_taken result end;
      }

      -- and where an access cut it, the last one made that access, or they are all
      pub stops_short : (result : Result Verdict VaultFault) → EndsByStop new.stop result → (new.stop ≢ None → last.recorder ≡ new.recorder)
          → (new.stop ≢ None → (before : List ℕ) × StopsAfter faults ds before new) → (new.stop ≡ None → EndsBehind a last.recorder.trace result)
          → StopsShort f.plan a whole last result
      stops_short (Ok v) stopped still stops behind = tt
      stops_short (Err fault) stopped still stops behind = λ access ends. by new.stop refl stopped access ends
        where
          same_turns : turns_made new ≡ turns_made last
          same_turns = taken_turns ∙ sym last_turns

          stops_with : (number : ℕ) → new.stop ≢ None → (new.stop ≡ Some (stop.DeviceFault number)) ⊎ (new.stop ≡ Some (stop.Tampered number)) → (access : Access)
              → EndsWith last.recorder.trace access → EndsWithTurn f.plan a (turns_made last) access
          stops_with number there why access ends =
              let at = stops there in
              subst (λ (h : List ℕ). EndsWithTurn f.plan a h access) same_turns
              (broke at.0 at.1 number why access (subst (λ (r : Recorded V). EndsWith r.trace access) (still there) ends))

          by : (s : Option Stop) → new.stop ≡ s → EndsByStop s (Err fault) → (access : Access) → EndsWith last.recorder.trace access
              → EndsWithTurn f.plan a (turns_made last) access ⊎ ((turns_made last ≡ whole) × IsBehind a access)
          by None is end access ends =
              let long = replayed_on.whole (subst IsUnbroken (sym is) tt) in inr (last_turns ∙ take_all replayed_on.count whole (omega (arith, long)), behind is access ends)
          by (Some (stop.StashOverflow j)) is end access ends = absurd (cc end)
          by (Some (stop.DeviceFault number)) is end access ends = inl (stops_with number (λ none. cc (sym is ∙ none)) (inl is) access ends)
          by (Some (stop.Tampered number)) is end access ends = inl (stops_with number (λ none. cc (sym is ∙ none)) (inr is) access ends)

-- who stands at a post is a member, whatever was made of recorder and stash
pub members_on : {V C : Type 0} (ds : ℕ → Draw) (target_lists : C → ℕ → ℕ → List ℕ) (f g : Parts V) (workers : List (Working C))
    → ArePosts ds target_lists f workers → g ≡ record f { recorder = g.recorder; stash = g.stash } → AreMembers ds target_lists g workers
members_on {V} ds target_lists f g workers posts same k w inside =
    let post = posts k w inside in
    subst (λ (x : Parts V). IsMember ds target_lists x k (get_or workers k w)) (sym same) (record {
      number = post.number;
      of = record { number = post.of.number; plan = post.of.plan; outer = post.of.outer; run = post.of.run; draws = post.of.draws };
    })

-- the list of each attempt is one of workers
pub workers_at : (w : ℕ) (turns : List (List ℕ)) (a : ℕ) → All (λ h. All (λ v. v < w) h) turns → All (λ v. v < w) (get_or turns a [])
workers_at w [] a all = All-nil w
workers_at w (h ∷ turns) zero all = All-head (λ (h : List ℕ). All (λ v. v < w) h) h turns all
workers_at w (h ∷ turns) (suc a) all = workers_at w turns a (All-tail (λ (h : List ℕ). All (λ v. v < w) h) h turns all)

-- a worker that was made is a member of a floor of its plan, keys and draws
pub is_member : {V C : Type 0} (ds : ℕ → Draw) (targets orders : C → ℕ → ℕ → List ℕ) (f : Parts V) (coins : C) (plan : Sizes) (outer run : Keys) (k : ℕ) (w : Working C)
    → f.plan ≡ plan → f.outer ≡ outer → f.run ≡ run → ((a : ℕ) → ds a ≡ drawn (targets coins) (orders coins) a) → k < plan.workers
    → IsNewWorker coins plan outer run k w → IsMember ds targets f k w
is_member {C = C} ds targets orders f coins plan outer run k w same sealed kept draws inside made = record {
  number = made.number;
  of = record {
    number = let is = made.number in let workers = ap (λ (q : Sizes). q.workers) same in omega (arith, is, workers, inside);
    plan = made.plan ∙ sym same;
    outer = made.outer_are ∙ sym sealed;
    run = made.run_are ∙ sym kept;
    draws = λ a j few bucket. ap (λ (c : C). targets c a j) made.coins_are ∙ sym (ap (λ (d : Draw). d.targets j) (draws a));
  };
}
