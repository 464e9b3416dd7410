-- A floor that was loaded, and one whose load failed, behind the entries that came before the run.
use Rattle.std.proofs.Common.{◌≡◌, ℕ, zero, suc, ◌+◌, ◌<◌, ◌≤◌, List, [], ◌∷◌, ◌++◌, length, map, drop, All, Option, Some, None, refl, sym, ap, ◌∙◌, subst, arith, length-append}
use mathlib.Core.List.{IsPrefix}
use Rattle.std.proofs.lemmas.List.{drop_all}
use Rattle.std.proofs.lemmas.List.Elements.{All-nil}
use Rattle.esa_device.specs.Logs.{Carried, NoneFailed}
use Rattle.esa_envelope.specs.declared.keys.Keys.{Keys}
use Rattle.esa_laws.proofs.HistoryLaws.{begun-owner, lists-first}
use Rattle.esa_params.specs.Sizes.{ArePlanned, Sizes, below}
use Rattle.esa_spec.specs.Draws.{Draw}
use Rattle.esa_spec.specs.Fronts.{Begins}
use Rattle.esa_spec.specs.Histories.{begun, lists}
use Rattle.esa_spec.specs.Traces.{shuffle_trace}
use Rattle.esa_spec.specs.declared.event.Verdict.{Verdict}
use Rattle.esa_ending.specs.Seen.{history_of, verdict_in}
use Rattle.esa_floor.specs.Marks.{mark_of, roots_of}
use Rattle.esa_floor.specs.Parts.{Parts, ended_as}
use Rattle.esa_floor.specs.Standing.{EndsAs, IsAt, IsNew, Stands, lists_before}
use Rattle.esa_floor.specs.Trails.{IsKept, entry_text, trail_of}
use Rattle.esa_floor.specs.Written.{GaveItsOwn, IsOfInput}
use Rattle.esa_floor.specs.declared.floor.Roots.{Roots}
use Rattle.esa_floor.specs.declared.turn.Outcome.{Outcome}
use Rattle.esa_floor.specs.declared.turn.Outcome.TheVariants as outcome
use Rattle.esa_floor.proofs.Failing.{Moved}
use Rattle.esa_floor.proofs.Faulting.{each_gave, none_failed}
use Rattle.esa_floor.proofs.Writing.{took-input}
use Rattle.esa_shuffle.specs.Loading.{IsOfLoad, IsUnbegun}
use Rattle.esa_shuffle.specs.Records.{IsShuffledFrom}
use Rattle.esa_shuffle.specs.Runs.{AreStored, IsCounted, MayEnd, failed_of, lists_ended}
use Rattle.esa_turnstile.specs.Passes.{found_trail_of}
use Rattle.esa_turnstile.specs.declared.pass.Pass.{Pass}
use Rattle.esa_turnstile.specs.declared.turnstile.Turnstile.{Turnstile}
use Rattle.esa_workers.specs.Distributions.{HasFloor}
use Rattle.esa_parallel.specs.Crews.{AllAreDone, AllTookPart, uncut_of}
use Rattle.esa_parallel.specs.Fronts.{behind}
use Rattle.esa_parallel.proofs.Between.{cut_same}

-- a floor of which no attempt was begun has done nothing
module _ {V : Type 0} (faults : V → ℕ) (p : Sizes) (ds : ℕ → Draw) (f : Parts V) (stands : Stands faults p ds f) (none : begun p.workers f.history ≡ 0) where
  none_here : begun f.plan.workers f.history ≡ 0
  none_here = ap (λ (q : Sizes). begun q.workers f.history) stands.of.plan ∙ none

  new_by : (o : Option Outcome) (at : Option ℕ) → f.outcome ≡ o → f.attempt ≡ at → IsAt faults ds f o at → (f.outcome ≡ None) × (f.attempt ≡ None) × IsNew faults f
  new_by (Some o) at is idle state = let some = state.1 in let zero_begun = none_here in absurd (omega (arith, some, zero_begun))
  new_by None (Some a) is idle state = let some = state.some_begun in let zero_begun = none_here in absurd (omega (arith, some, zero_begun))
  new_by None None is idle state = (is, idle, state)

  new : (f.outcome ≡ None) × (f.attempt ≡ None) × IsNew faults f
  new = new_by f.outcome f.attempt refl refl stands.state

  pub unbegun : ArePlanned p → length f.history < f.room → IsUnbegun faults p ds f
  unbegun planned room = record {
    stands = stands;
    planned = planned;
    none_begun = none_here;
    room = room;
    outcome = new.0;
    trace = new.2.trace;
    calm = new.2.calm;
  }

  pub no_log : map (λ (entry : Carried). entry.access) f.recorder.log ≡ f.recorder.trace → f.recorder.log ≡ []
  no_log logged = empty f.recorder.log (logged ∙ new.2.trace)
    where
      empty : (log : List Carried) → map (λ (entry : Carried). entry.access) log ≡ [] → log ≡ []
      empty [] is = refl
      empty (entry ∷ log) is = absurd (let long = ap length is in omega (arith, long))

  -- it keeps all that a turnstile's floor keeps
  pub kept_unbegun : map (λ (entry : Carried). entry.access) f.recorder.log ≡ f.recorder.trace → IsKept faults p ds f
  kept_unbegun logged = record {
    stands = stands;
    logged = logged;
    done = λ some. absurd (some new.1);
    took = λ record_of items. took-input ds record_of f (subst (All (IsOfInput f.plan)) (sym (no_log logged)) (All-nil (IsOfInput f.plan)));
    failed = none_failed ds f new.0 new.2.runs (subst NoneFailed (sym (no_log logged)) (All-nil Moved));
    reads = each_gave ds f new.0 new.2.runs (subst (All (GaveItsOwn ds f)) (sym (no_log logged)) (All-nil (GaveItsOwn ds f)));
  }

-- what begins nothing begins everything
front_of_none : {X : Type 0} (xs ys : List X) → IsPrefix xs [] → IsPrefix xs ys
front_of_none [] ys front = (ys, refl)
front_of_none (x ∷ xs) ys front = absurd (let long = ap length front.1 in omega (arith, long))

pub seen_nothing : {X : Type 0} (xs empty ys : List X) → empty ≡ [] → IsPrefix xs empty → IsPrefix xs ys
seen_nothing xs empty ys is front = front_of_none xs ys (subst (IsPrefix xs) is front)

-- the owner still has the floor once it was loaded
pub has_loaded : {V : Type 0} (p : Sizes) (t : Turnstile (Parts V) Roots) (owner : Pass (Parts V)) (f g : Parts V) → g ≡ record f { recorder = g.recorder } → f.recorder.log ≡ []
    → HasFloor p t owner f → HasFloor p t owner g
has_loaded p t owner f g same none has = record {
  pass = has.pass;
  inside = has.inside;
  number = has.number;
  found = has.found ∙ sym (ap (λ (x : Parts _). x.history) same);
  mark = let below = has.mark in let is = ap (λ (x : Parts _). mark_of x) same in omega (arith, below, is);
  trail = seen_nothing (found_trail_of owner) (trail_of f) (trail_of g) (ap (map entry_text) none) has.trail;
  origin = ap (λ (x : Parts _). roots_of x) same ∙ has.origin;
  named = subst (λ (x : Parts _). All (λ entry. entry < p.workers + 1) x.history) (sym same) has.named;
  room = subst (λ (x : Parts _). length x.history < x.room) (sym same) has.room;
}

-- a run whose load failed ends as if nobody had come before it
module _ {V : Type 0} (faults : V → ℕ) (p : Sizes) (ds : ℕ → Draw) (f : Parts V) (o : Outcome) (stands : Stands faults p ds (ended_as f o)) (none : begun f.plan.workers f.history ≡ 0) where
  abbrev alone : Parts V
  alone = record f { history = [] }

  lists_is : lists_before (ended_as f o) ≡ lists_before (ended_as alone o)
  lists_is = lists-first f.plan.workers f.history none ∙ sym (lists-first f.plan.workers [] refl)

  ends_by : (x : Outcome) → IsOfLoad x → EndsAs faults ds (ended_as f o) x → EndsAs faults ds (ended_as alone o) x
  ends_by (outcome.DeviceFault number) load ends = (subst (λ (ls : List (List ℕ)). Begins f.recorder.trace (shuffle_trace f.plan ds ls)) lists_is ends.0, ends.1, ends.2)
  ends_by outcome.BatchFailed load ends = (sym lists_is ∙ ends.0, ends.1, ends.2)
  ends_by (outcome.Shuffled a) never ends = absurd never
  ends_by outcome.Overflow never ends = absurd never
  ends_by (outcome.Tampered number) never ends = absurd never

  entries : length f.history + 1 ≤ f.room
  entries = let few = stands.of.entries in let long = length-append f.history (f.plan.workers ∷ []) in omega (arith, few, long)

  stands_alone : IsOfLoad o → Stands faults p ds (ended_as alone o)
  stands_alone load = record {
    of = record { plan = stands.of.plan; ready = stands.of.ready; room = stands.of.room; entries = let few = entries in omega (arith, few) };
    drawn = stands.drawn;
    state = (refl, (let one = begun-owner f.plan.workers [] in omega (arith, one)), ends_by o load stands.state.2);
  }

  empty : lists_ended p alone ≡ []
  empty = lists-first p.workers [] refl

  stored : (x : Outcome) → IsOfLoad x → AreStored (lists_ended p alone) (lists_ended p alone) x
  stored (outcome.DeviceFault number) load = cut_same (lists_ended p alone)
  stored outcome.BatchFailed load = empty
  stored (outcome.Shuffled a) never = absurd never
  stored outcome.Overflow never = absurd never
  stored (outcome.Tampered number) never = absurd never

  none_left : (x : Outcome) → IsOfLoad x → failed_of x (length (lists_ended p alone)) ≡ 0
  none_left (outcome.DeviceFault number) load = let long = ap length empty in omega (arith, long)
  none_left outcome.BatchFailed load = let long = ap length empty in omega (arith, long)
  none_left (outcome.Shuffled a) never = absurd never
  none_left outcome.Overflow never = absurd never
  none_left (outcome.Tampered number) never = absurd never

  pub load_failed : (before now : ℕ) (failures : List Verdict) → IsOfLoad o → IsCounted f.plan.b (length f.recorder.trace) before now o → failures ≡ []
      → MayEnd faults p ds (lists_ended p (behind (length f.history) f)) before now (behind (length f.history) f) failures o
  load_failed before now failures load counted no_failures =
      let gone : drop (length f.history) f.history ≡ [] = drop_all (length f.history) f.history (omega arith) in
      subst (λ (h : List ℕ). MayEnd faults p ds (lists_ended p (record f { history = h })) before now (record f { history = h }) failures o) (sym gone) (record {
        stands = stands_alone load;
        room = let few = entries in omega (arith, few);
        history = ap (history_of p) (sym empty);
        turns = stored o load;
        failed = no_failures ∙ ap (λ (n : ℕ). map (verdict_in p ds (lists_ended p alone)) (below n)) (sym (none_left o load));
        batch = subst (λ (q : Sizes). IsCounted q.b (length f.recorder.trace) before now o) stands.of.plan counted;
      })

  pub none_few : length (lists_ended p (behind (length f.history) f)) ≤ p.attempts
  none_few =
      let gone : drop (length f.history) f.history ≡ [] = drop_all (length f.history) f.history (omega arith) in
      subst (λ (h : List ℕ). length (lists_ended p (record f { history = h })) ≤ p.attempts) (sym gone) (let long = ap length empty in omega (arith, long))

  pub none_took_part : AllTookPart p (lists_ended p (behind (length f.history) f))
  none_took_part =
      let gone : drop (length f.history) f.history ≡ [] = drop_all (length f.history) f.history (omega arith) in
      subst (λ (h : List ℕ). AllTookPart p (lists_ended p (record f { history = h }))) (sym gone)
      (λ a inside. let long = ap length empty in absurd (omega (arith, inside, long)))

  none_uncut : (x : Outcome) (hs : List (List ℕ)) → IsOfLoad x → length hs ≡ 0 → uncut_of x (length hs) ≡ 0
  none_uncut (outcome.DeviceFault number) hs load none_there = omega (arith, none_there)
  none_uncut outcome.BatchFailed hs load none_there = none_there
  none_uncut (outcome.Shuffled a) hs never none_there = absurd never
  none_uncut outcome.Overflow hs never none_there = absurd never
  none_uncut (outcome.Tampered number) hs never none_there = absurd never

  pub none_done : IsOfLoad o → AllAreDone p ds (lists_ended p (behind (length f.history) f)) o
  none_done load =
      let gone : drop (length f.history) f.history ≡ [] = drop_all (length f.history) f.history (omega arith) in
      subst (λ (h : List ℕ). AllAreDone p ds (lists_ended p (record f { history = h })) o) (sym gone)
      (λ a inside. let zero_there = none_uncut o (lists_ended p alone) load (ap length empty) in absurd (omega (arith, inside, zero_there)))

-- what became of records is the same by another name of the keys, the entries and the log
pub shuffled_same : (p : Sizes) (ds : ℕ → Draw) (o : Outcome) (given : List ℕ) (outer outer_now run run_now : Keys) (h h_now : List ℕ) (log log_now : List Carried)
    → outer ≡ outer_now → run ≡ run_now → h ≡ h_now → log ≡ log_now
    → IsShuffledFrom p ds (lists p.workers h) outer run h log o given → IsShuffledFrom p ds (lists p.workers h_now) outer_now run_now h_now log_now o given
shuffled_same p ds o given outer outer_now run run_now h h_now log log_now outer_is run_is h_is log_is is =
    subst (λ (l : List Carried). IsShuffledFrom p ds (lists p.workers h_now) outer_now run_now h_now l o given) log_is
    (subst (λ (xs : List ℕ). IsShuffledFrom p ds (lists p.workers xs) outer_now run_now xs log o given) h_is
    (subst (λ (k : Keys). IsShuffledFrom p ds (lists p.workers h) outer_now k h log o given) run_is
    (subst (λ (k : Keys). IsShuffledFrom p ds (lists p.workers h) k run h log o given) outer_is is)))

-- a longer list without a front of it
pub drop_on : {X : Type 0} (n : ℕ) (xs ys : List X) → n ≤ length xs → drop n (xs ++ ys) ≡ drop n xs ++ ys
drop_on zero xs ys within = refl
drop_on (suc n) [] ys within = absurd (omega (arith, within))
drop_on (suc n) (x ∷ xs) ys within = drop_on n xs ys (omega (arith, within))

pub front_long : {X : Type 0} (xs ys : List X) → IsPrefix xs ys → length xs ≤ length ys
front_long xs ys front = let all = ap length (sym front.1) ∙ length-append xs front.0 in omega (arith, all)
