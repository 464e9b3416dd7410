-- The attempts of a run, one after another: what a floor is before each of them, and how one ends the run or leads on.
use Rattle.std.proofs.Common.{◌≡◌, inl, inr, ℕ, zero, suc, ◌+◌, ◌-◌, ◌<◌, ◌≤◌, Bool, true, false, cond, List, [], ◌∷◌, ◌++◌, length, map, take, None, Ok, Err, refl, sym, ap, ap₂, ◌∙◌, subst, arith, add-one, length-append, length-take}
use Rattle.std.specs.Prelude.{All}
use Rattle.std.proofs.lemmas.List.Elements.{All-take}
use Rattle.std.proofs.lemmas.List.FromFn.{get_or-map-range_with_len}
use Rattle.esa_laws.proofs.HistoryLaws.{lists-first}
use Rattle.esa_laws.proofs.Ranges.{map-below-suc, sum-below-suc}
use Rattle.esa_params.specs.Sizes.{Sizes, below}
use Rattle.esa_spec.specs.Completion.{completed, turns_needed}
use Rattle.esa_params.specs.declared.slot.Access.{Access}
use Rattle.esa_spec.specs.Draws.{Draw}
use Rattle.esa_spec.specs.Fronts.{EndsWith}
use Rattle.esa_spec.specs.Histories.{lists}
use Rattle.esa_spec.specs.Traces.{is_failed}
use Rattle.esa_spec.specs.Verdicts.{is_good, verdict}
use Rattle.esa_spec.specs.declared.event.Verdict.{Verdict}
use Rattle.esa_ending.specs.Seen.{AreCut, EndsWithTurn, HistoryEnds, history_of, turns_in, verdict_in}
use Rattle.esa_ending.proofs.HistoryLaws.{ends-behind, ends-with-turn}
use Rattle.esa_floor.specs.Parts.{Parts, begun_as, ended_as}
use Rattle.esa_floor.specs.Standing.{Stands, turns_made}
use Rattle.esa_floor.specs.declared.turn.Outcome.{Outcome}
use Rattle.esa_floor.specs.declared.turn.Outcome.TheVariants as outcome
use Rattle.esa_vault.specs.declared.fault.VaultFault.{VaultFault}
use Rattle.esa_vault.specs.declared.fault.VaultFault.TheVariants as fault
use Rattle.esa_model.specs.Forecast.{handed_in, made, made_in}
use Rattle.esa_crew.proofs.Finishing.{begins_again, ends_failed, ends_shuffled}
use Rattle.esa_shuffle.specs.Attempts.{AddsAttempt, AttemptEnd, StopsShort, outcome_of}
use Rattle.esa_shuffle.specs.Runs.{AreStored, EndWithCut, IsCounted, MayEnd, entries_before, entries_in, failed_of, lists_ended}
use Rattle.esa_shuffle.proofs.Storing.{cut-in, first-more, history-more, length-first, length_is, lists_are, take-first, turns_are}

-- a floor before attempt a, or after the last one: the attempts before it have failed
pub record IsBefore {V : Type 0} (faults : V → ℕ) (p : Sizes) (ds : ℕ → Draw) (turns : List (List ℕ)) (a : ℕ) (f : Parts V) (failures : List Verdict) : Type 0 where
  pub plan : f.plan ≡ p
  pub next : a < p.attempts → Stands faults p ds (begun_as f a)
  pub over : 1 ≤ a → a ≡ p.attempts → Stands faults p ds (ended_as f outcome.Overflow)
  pub entries : length f.history ≤ entries_before p turns a
  pub lists_are : lists_ended p f ≡ map (made_in p ds turns) (below a)
  pub history : f.history ++ p.workers ∷ [] ≡ history_of p (map (made_in p ds turns) (below a))
  pub failed : failures ≡ map (verdict_in p ds (made p ds turns)) (below a)

-- before the first one
pub first_before : {V : Type 0} (faults : V → ℕ) (p : Sizes) (ds : ℕ → Draw) (turns : List (List ℕ)) (f : Parts V) (failures : List Verdict)
    → f.plan ≡ p → Stands faults p ds (begun_as f 0) → f.history ≡ [] → failures ≡ [] → IsBefore faults p ds turns 0 f failures
first_before faults p ds turns f failures plan next none no_failures = record {
  plan = plan;
  next = λ some. next;
  over = λ some. absurd (omega (arith, some));
  entries = let empty = ap length none in omega (arith, empty);
  lists_are = ap (λ (h : List ℕ). lists p.workers (h ++ p.workers ∷ [])) none ∙ lists-first p.workers [] refl;
  history = ap (λ (h : List ℕ). h ++ p.workers ∷ []) none;
  failed = no_failures;
}

-- the entries of an attempt more
pub entries-more : (p : Sizes) (turns : List (List ℕ)) (a : ℕ) → entries_before p turns (a + 1) ≡ entries_before p turns a + entries_in p turns a
entries-more p turns a = ap (entries_before p turns) (add-one a) ∙ sum-below-suc (entries_in p turns) a

entries-grow : (p : Sizes) (turns : List (List ℕ)) (a d : ℕ) → entries_before p turns a ≤ entries_before p turns (a + d)
entries-grow p turns a zero = let same : a + 0 ≡ a = omega arith in subst (λ (n : ℕ). entries_before p turns a ≤ entries_before p turns n) (sym same) (omega arith)
entries-grow p turns a (suc d) =
    let next : a + suc d ≡ (a + d) + 1 = omega arith in
    subst (λ (n : ℕ). entries_before p turns a ≤ entries_before p turns n) (sym next)
    (let before = entries-grow p turns a d in let more = entries-more p turns (a + d) in omega (arith, before, more))

pub entries-within : (p : Sizes) (turns : List (List ℕ)) (a n : ℕ) → a ≤ n → entries_before p turns a ≤ entries_before p turns n
entries-within p turns a n within =
    let whole : a + (n - a) ≡ n = omega (arith, within) in
    subst (λ (m : ℕ). entries_before p turns a ≤ entries_before p turns m) whole (entries-grow p turns a (n - a))

-- there is room for the turns of attempt a, and for the owner's entry after them
pub room_for : {V : Type 0} (faults : V → ℕ) (p : Sizes) (ds : ℕ → Draw) (turns : List (List ℕ)) (a : ℕ) (f : Parts V) (failures : List Verdict) (room : ℕ)
    → IsBefore faults p ds turns a f failures → a < p.attempts → entries_before p turns p.attempts < room
    → length f.history + 1 + length (completed p (handed_in turns a)) < room
room_for faults p ds turns a f failures room before inside most =
    let so_far = before.entries in
    let more = entries-more p turns a in
    let all = entries-within p turns (a + 1) p.attempts (omega (arith, inside)) in
    omega (arith, so_far, more, all, most)

-- the last of a list
nth-behind : (xs : List (List ℕ)) (h : List ℕ) → turns_in (xs ++ h ∷ []) (length xs) ≡ h
nth-behind [] h = refl
nth-behind (x ∷ xs) h = nth-behind xs h

-- attempt a, which adds these turns to the history
module _ {V : Type 0} (faults : V → ℕ) (p : Sizes) (ds : ℕ → Draw) (turns : List (List ℕ)) (a : ℕ) (f g : Parts V) (failures : List Verdict)
    (before : IsBefore faults p ds turns a f failures) (inside : a < p.attempts) (same : g.plan ≡ p)
    (workers : All (λ v. v < p.workers) (made_in p ds turns a))
  where
    abbrev here : List ℕ
    here = made_in p ds turns a

    abbrev hs : List (List ℕ)
    hs = made p ds turns

    all_in : (count : ℕ) → All (λ v. v < p.workers) (take count here)
    all_in count = All-take (λ v. v < p.workers) count here workers

    listed : (count : ℕ) → g.history ≡ (f.history ++ p.workers ∷ []) ++ take count here → lists_ended p g ≡ map (made_in p ds turns) (below a) ++ take count here ∷ []
    listed count is =
        lists_are p.workers f.history (take count here) g.history (all_in count) is
        ∙ ap (λ (xs : List (List ℕ)). xs ++ take count here ∷ []) before.lists_are

    historied : (count : ℕ) → g.history ≡ (f.history ++ p.workers ∷ []) ++ take count here
        → g.history ++ p.workers ∷ [] ≡ history_of p (map (made_in p ds turns) (below a) ++ take count here ∷ [])
    historied count is = history-more p (map (made_in p ds turns) (below a)) f.history (take count here) g.history before.history is

    room_left : (o : Outcome) → Stands faults p ds (ended_as g o) → length g.history < g.room
    room_left o stands =
        let long = length-append g.history (g.plan.workers ∷ []) in
        let entries = stands.of.entries in
        omega (arith, long, entries)

    turn_lists : turns_in hs a ≡ here
    turn_lists = get_or-map-range_with_len (made_in p ds turns) 0 p.attempts a a [] inside (omega arith)

    -- it is over
    module _ (v : Verdict) (added : AddsAttempt p here f.history g.history (Ok v)) (end : AttemptEnd faults p ds a g (Ok v)) where
      lists_now : lists_ended p g ≡ map (made_in p ds turns) (below (a + 1))
      lists_now =
          listed added.count added.history
          ∙ ap (λ (xs : List ℕ). map (made_in p ds turns) (below a) ++ xs ∷ []) added.whole
          ∙ first-more (made_in p ds turns) a

      history_now : g.history ++ p.workers ∷ [] ≡ history_of p (map (made_in p ds turns) (below (a + 1)))
      history_now =
          historied added.count added.history
          ∙ ap (λ (xs : List ℕ). history_of p (map (made_in p ds turns) (below a) ++ xs ∷ [])) added.whole
          ∙ ap (history_of p) (first-more (made_in p ds turns) a)

      turns_now : turns_made g ≡ here
      turns_now =
          ap (λ (q : Sizes). turns_made (record g { plan = q })) same
          ∙ turns_are p.workers f.history (take added.count here) g.history (all_in added.count) added.history ∙ added.whole

      verdict_now : v ≡ verdict_in p ds hs a
      verdict_now =
          sym end.2 ∙ ap₂ (λ (q : Sizes) (h : List ℕ). verdict q (ds a) h) same (turns_now ∙ sym turn_lists)

      stored_good : lists_ended p g ≡ take (a + 1) hs
      stored_good = lists_now ∙ sym (take-first (made_in p ds turns) (a + 1) p.attempts (omega (arith, inside)))

      pub ends_good : is_good v ≡ true → (count : ℕ) → MayEnd faults p ds hs count count g failures (outcome.Shuffled a)
      ends_good good count =
          let stands = ends_shuffled faults p ds g a end.0 end.1 (ap is_good end.2 ∙ good) in
          record {
            stands = stands;
            room = room_left (outcome.Shuffled a) stands;
            history = history_now ∙ ap (history_of p) (sym lists_now);
            turns = stored_good;
            failed = before.failed ∙ ap (λ (n : ℕ). map (verdict_in p ds hs) (below n))
                (let long = ap length lists_now ∙ length-first (made_in p ds turns) (a + 1) in omega (arith, long));
            batch = refl;
          }

      failed_is : is_good v ≡ false → is_failed g.plan (ds a) (turns_made g) ≡ true
      failed_is bad =
          ap (λ (c : Bool). cond c (cond (is_good (verdict g.plan (ds a) (turns_made g))) false true) false) end.1
          ∙ ap (λ (w : Verdict). cond (is_good w) false true) end.2 ∙ ap (λ (c : Bool). cond c false true) bad

      pub leads_on : g.outcome ≡ None → is_good v ≡ false → IsBefore faults p ds turns (a + 1) g (failures ++ v ∷ [])
      leads_on goes_on bad = record {
        plan = same;
        next = λ more. begins_again faults p ds g a end.0 (failed_is bad) goes_on more;
        over = λ some last. ends_failed faults p ds g a end.0 (failed_is bad) last;
        entries =
            let long = length_is p.workers f.history (take added.count here) g.history (all_in added.count) added.history in
            let part = length-take added.count here in
            let whole = length-take (turns_needed p (ds a) (completed p (handed_in turns a))) (completed p (handed_in turns a)) in
            let so_far = before.entries in
            let more = entries-more p turns a in
            omega (arith, long, part, whole, so_far, more);
        lists_are = lists_now;
        history = history_now;
        failed =
            ap₂ (λ (xs : List Verdict) (w : Verdict). xs ++ w ∷ []) before.failed verdict_now
            ∙ sym (ap (λ (n : ℕ). map (verdict_in p ds hs) (below n)) (add-one a) ∙ map-below-suc (verdict_in p ds hs) a);
      }

    -- an access cut it
    counted : (why : VaultFault) (b accesses count : ℕ) → IsCounted b accesses count count (outcome_of why)
    counted (fault.Device number) b accesses count = refl
    counted (fault.Tampered number) b accesses count = refl

    stored : (why : VaultFault) (xs : List (List ℕ)) → AreCut xs hs → AreStored xs hs (outcome_of why)
    stored (fault.Device number) xs cut = cut
    stored (fault.Tampered number) xs cut = cut

    failures_cut : (why : VaultFault) (n : ℕ) → n ≡ a + 1 → failures ≡ map (verdict_in p ds hs) (below (failed_of (outcome_of why) n))
    failures_cut (fault.Device number) n is = before.failed ∙ ap (λ (n : ℕ). map (verdict_in p ds hs) (below n)) (omega (arith, is))
    failures_cut (fault.Tampered number) n is = before.failed ∙ ap (λ (n : ℕ). map (verdict_in p ds hs) (below n)) (omega (arith, is))

    -- the turns that were stored end with it
    module _ (why : VaultFault) (added : AddsAttempt p here f.history g.history (Err why)) (short : StopsShort p a here g (Err why)) where
      abbrev firsts : List (List ℕ)
      firsts = map (made_in p ds turns) (below a)

      ends_with : (access : Access) → EndsWith g.recorder.trace access → HistoryEnds p (lists_ended p g) hs access
      ends_with access ends =
          let now = take added.count here in
          let lists = listed added.count added.history in
          let first = length-first (made_in p ds turns) a in
          let long = ap length lists ∙ length-append firsts (now ∷ []) in
          let made_now : turns_made g ≡ now =
          ap (λ (q : Sizes). turns_made (record g { plan = q })) same ∙ turns_are p.workers f.history now g.history (all_in added.count) added.history in
          let here_now : turns_in (lists_ended p g) a ≡ turns_made g =
          ap (λ (xs : List (List ℕ)). turns_in xs a) lists ∙ ap (turns_in (firsts ++ now ∷ [])) (sym first) ∙ nth-behind firsts now ∙ sym made_now in
          elim (short access ends) [
            | inl one ↦ ends-with-turn p (lists_ended p g) hs a (omega (arith, long, first)) access (subst (λ (h : List ℕ). EndsWithTurn p a h access) (sym here_now) one)
            | inr all ↦ ends-behind p (lists_ended p g) hs access a all.1
                (lists ∙ ap (λ (h : List ℕ). firsts ++ h ∷ []) (sym made_now ∙ all.0) ∙ first-more (made_in p ds turns) a
                ∙ sym (take-first (made_in p ds turns) (a + 1) p.attempts (omega (arith, inside))))
          ]

      by_cause : (cause : VaultFault) → EndWithCut p (lists_ended p g) hs g.recorder.trace (outcome_of cause)
      by_cause (fault.Device number) = ends_with
      by_cause (fault.Tampered number) = ends_with

      pub cut_ends : EndWithCut p (lists_ended p g) hs g.recorder.trace (outcome_of why)
      cut_ends = by_cause why

    pub ends_cut : (why : VaultFault) → AddsAttempt p here f.history g.history (Err why) → AttemptEnd faults p ds a g (Err why)
        → (count : ℕ) → MayEnd faults p ds hs count count g failures (outcome_of why)
    ends_cut why added stands count =
        let lists = listed added.count added.history in
        record {
          stands = stands;
          room = room_left (outcome_of why) stands;
          history = historied added.count added.history ∙ ap (history_of p) (sym lists);
          turns = stored why (lists_ended p g)
              (subst (λ (xs : List (List ℕ)). AreCut xs hs) (sym lists) (cut-in (made_in p ds turns) a p.attempts added.count inside));
          failed = failures_cut why (length (lists_ended p g))
              (let long = ap length lists ∙ length-append (map (made_in p ds turns) (below a)) (take added.count here ∷ []) in
              let first = length-first (made_in p ds turns) a in omega (arith, long, first));
          batch = counted why p.b (length g.recorder.trace) count;
        }

-- all have failed
pub ends_all : {V : Type 0} (faults : V → ℕ) (p : Sizes) (ds : ℕ → Draw) (turns : List (List ℕ)) (a : ℕ) (f : Parts V) (failures : List Verdict)
    → IsBefore faults p ds turns a f failures → 1 ≤ a → a ≡ p.attempts → (count : ℕ) → MayEnd faults p ds (made p ds turns) count count f failures outcome.Overflow
ends_all faults p ds turns a f failures before some last count =
    let stands = before.over some last in
    record {
      stands = stands;
      room = let long = length-append f.history (f.plan.workers ∷ []) in let entries = stands.of.entries in omega (arith, long, entries);
      history = before.history ∙ ap (history_of p) (sym before.lists_are);
      turns = before.lists_are ∙ ap (λ (n : ℕ). map (made_in p ds turns) (below n)) last;
      failed = before.failed ∙ ap (λ (n : ℕ). map (verdict_in p ds (made p ds turns)) (below n))
          (sym (ap length before.lists_are ∙ length-first (made_in p ds turns) a));
      batch = refl;
    }
