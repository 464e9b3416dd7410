-- The attempts of a run by a crew, one after another: what a floor is between two of them, and how one ends the run or leads on.
use Rattle.std.proofs.Common.{◌≡◌, ℕ, ◌+◌, ◌<◌, ◌≤◌, Bool, true, false, cond, List, [], ◌∷◌, ◌++◌, length, map, All, None, Ok, Err, refl, sym, ap, ap₂, ◌∙◌, subst, arith, inl, inr, add-one, append-nil, append_assoc, length-append, take_all}
use Rattle.std.specs.Prelude.{flat_map}
use Rattle.std.proofs.lemmas.Bool.{cases_eq, cases_lt}
use Rattle.std.proofs.lemmas.List.{get_or_append_left, get_or_push}
use Rattle.std.proofs.lemmas.List.Concat.{flat_map-append}
use Rattle.std.proofs.lemmas.List.Elements.{All-head}
use Rattle.esa_laws.proofs.FinishLaws.{turns_of-append}
use Rattle.esa_laws.proofs.HistoryLaws.{begun-owner, lists-first}
use Rattle.esa_laws.proofs.Ranges.{map-below-same, map-below-suc}
use Rattle.esa_params.specs.Sizes.{Sizes, below}
use Rattle.esa_spec.specs.Draws.{Draw}
use Rattle.esa_spec.specs.Histories.{begun}
use Rattle.esa_spec.specs.Traces.{is_failed}
use Rattle.esa_spec.specs.Verdicts.{is_good, verdict}
use Rattle.esa_spec.specs.declared.event.Verdict.{Verdict}
use Rattle.esa_ending.specs.Seen.{AreCut, history_of, turns_in, verdict_in}
use Rattle.esa_floor.specs.Parts.{Parts, begun_as, ended_as}
use Rattle.esa_floor.specs.Standing.{Stands, turns_made}
use Rattle.esa_floor.specs.declared.turn.Outcome.{Outcome}
use Rattle.esa_floor.specs.declared.turn.Outcome.TheVariants as outcome
use Rattle.esa_vault.specs.declared.fault.VaultFault.{VaultFault}
use Rattle.esa_vault.specs.declared.fault.VaultFault.TheVariants as fault
use Rattle.esa_crew.proofs.Finishing.{begins_again, ends_failed, ends_shuffled}
use Rattle.esa_shuffle.specs.Attempts.{AttemptEnd, outcome_of}
use Rattle.esa_shuffle.specs.Runs.{AreStored, IsCounted, MayEnd, failed_of, lists_ended}
use Rattle.esa_shuffle.proofs.Storing.{lists_are}
use Rattle.esa_turnstile.specs.Entries.{times}
use Rattle.esa_workers.proofs.Turning.{begun_is}
use Rattle.esa_parallel.specs.Crews.{AllAreDone, AllTookPart, IsDoneByAll, TookPart}

-- a floor before attempt a, or after the last one: the attempts before it have failed. Before the first one the history had
-- these entries
pub record IsBetween {V : Type 0} (faults : V → ℕ) (p : Sizes) (ds : ℕ → Draw) (pre : List ℕ) (a : ℕ) (f : Parts V) (failures : List Verdict) : Type 0 where
  pub plan : f.plan ≡ p
  pub next : a < p.attempts → Stands faults p ds (begun_as f a)
  pub over : 1 ≤ a → a ≡ p.attempts → Stands faults p ds (ended_as f outcome.Overflow)
  pub count : length (lists_ended p f) ≡ a
  pub history : f.history ++ p.workers ∷ [] ≡ pre ++ history_of p (lists_ended p f)
  pub failed : failures ≡ map (verdict_in p ds (lists_ended p f)) (below a)
  pub took_part : AllTookPart p (lists_ended p f)
  pub done : (k : ℕ) → k < a → IsDoneByAll p (ds k) (turns_in (lists_ended p f) k)

-- before the first one
pub first_between : {V : Type 0} (faults : V → ℕ) (p : Sizes) (ds : ℕ → Draw) (f : Parts V) (failures : List Verdict)
    → f.plan ≡ p → Stands faults p ds (begun_as f 0) → begun p.workers f.history ≡ 0 → failures ≡ [] → IsBetween faults p ds f.history 0 f failures
first_between faults p ds f failures plan next none no_failures =
    let empty : lists_ended p f ≡ [] = lists-first p.workers f.history none in
    record {
      plan = plan;
      next = λ some. next;
      over = λ some. absurd (omega (arith, some));
      count = ap length empty;
      history = ap (λ (hs : List (List ℕ)). f.history ++ history_of p hs) (sym empty);
      failed = no_failures;
      took_part = λ k inside. let long = ap length empty in absurd (omega (arith, inside, long));
      done = λ k inside. absurd (omega (arith, inside));
    }

-- entries of nobody are none
pub nobody : (w : ℕ) (xs : List ℕ) → All (λ n. n < w + 1) xs → ((k : ℕ) → k < w → times k xs ≡ 0) → times w xs ≡ 0 → xs ≡ []
nobody w [] all none own = refl
nobody w (x ∷ xs) all none own = absurd (elim (cases_lt x w) [
  | inl less ↦ here x less (none x less)
  | inr more ↦
      let few = All-head (λ (n : ℕ). n < w + 1) x xs all in
      let same : x ≡ w = omega (arith, few, more) in
      once x (subst (λ (n : ℕ). times n (x ∷ xs) ≡ 0) (sym same) own)
])
  where
    once : (y : ℕ) → times y (y ∷ xs) ≡ 0 → ⊥
    once y zero_times =
        let split : times y ((y ∷ []) ++ xs) ≡ times y (y ∷ []) + times y xs = turns_of-append y (y ∷ []) xs in
        let one : times y ([] ++ y ∷ []) ≡ times y [] + 1 = begun-owner y [] in
        absurd (omega (arith, zero_times, split, one))

    here : (y : ℕ) → y < w → times y (y ∷ xs) ≡ 0 → ⊥
    here y less zero_times = once y zero_times

-- a list more
history_on : (p : Sizes) (hs : List (List ℕ)) (h : List ℕ) → history_of p hs ++ (h ++ p.workers ∷ []) ≡ history_of p (hs ++ h ∷ [])
history_on p hs h =
    let w = p.workers in
    let each = λ (h : List ℕ). h ++ w ∷ [] in
    ap (λ (xs : List ℕ). (w ∷ flat_map each hs) ++ xs) (sym (append-nil (h ++ w ∷ [])))
    ∙ ap (λ (xs : List ℕ). w ∷ xs) (sym (flat_map-append each hs (h ∷ [])))

pub cut_same : (xs : List (List ℕ)) → AreCut xs xs
cut_same [] = tt
cut_same (h ∷ []) = ([], sym (append-nil h))
cut_same (h ∷ other ∷ more) = (refl, cut_same (other ∷ more))

-- attempt a, which adds these turns to the history
module _ {V : Type 0} (faults : V → ℕ) (p : Sizes) (ds : ℕ → Draw) (pre : List ℕ) (a : ℕ) (f g : Parts V) (failures : List Verdict)
    (before : IsBetween faults p ds pre a f failures) (inside : a < p.attempts) (same : g.plan ≡ p)
    (took : TookPart p (turns_made g)) (longer : g.history ≡ (f.history ++ p.workers ∷ []) ++ turns_made g)
  where
    abbrev h : List ℕ
    h = turns_made g

    abbrev hs : List (List ℕ)
    hs = lists_ended p f

    listed : lists_ended p g ≡ hs ++ h ∷ []
    listed = lists_are p.workers f.history h g.history took.workers longer

    count_now : length (lists_ended p g) ≡ a + 1
    count_now = let long = length-append hs (h ∷ []) in let is = ap length listed in let was = before.count in omega (arith, long, is, was)

    pub few_now : length (lists_ended p g) ≤ p.attempts
    few_now = let is = count_now in omega (arith, is, inside)

    historied : g.history ++ p.workers ∷ [] ≡ pre ++ history_of p (lists_ended p g)
    historied =
        ap (λ (xs : List ℕ). xs ++ p.workers ∷ []) longer
        ∙ append_assoc (f.history ++ p.workers ∷ []) h (p.workers ∷ [])
        ∙ ap (λ (xs : List ℕ). xs ++ (h ++ p.workers ∷ [])) before.history
        ∙ append_assoc pre (history_of p hs) (h ++ p.workers ∷ [])
        ∙ ap (λ (xs : List ℕ). pre ++ xs) (history_on p hs h)
        ∙ ap (λ (ls : List (List ℕ)). pre ++ history_of p ls) (sym listed)

    earlier : (k : ℕ) → k < a → turns_in (lists_ended p g) k ≡ turns_in hs k
    earlier k few = ap (λ (ls : List (List ℕ)). turns_in ls k) listed ∙ get_or_append_left hs (h ∷ []) [] k (let was = before.count in omega (arith, few, was))

    pub last : turns_in (lists_ended p g) a ≡ h
    last = ap (λ (ls : List (List ℕ)). turns_in ls a) listed ∙ get_or_push hs h [] a before.count

    failed_before : failures ≡ map (verdict_in p ds (lists_ended p g)) (below a)
    failed_before =
        before.failed
        ∙ map-below-same (verdict_in p ds hs) (verdict_in p ds (lists_ended p g)) a (λ k few. ap (λ (t : List ℕ). verdict p (ds k) t) (sym (earlier k few)))

    -- what is so of each attempt before, and of this one
    each_now : (P : ℕ → List ℕ → Type 0) → ((k : ℕ) → k < a → P k (turns_in hs k)) → P a h → (k : ℕ) → k < a + 1 → P k (turns_in (lists_ended p g) k)
    each_now P so_far here k few = elim (cases_eq k a) [
      | inl this ↦ subst (λ (n : ℕ). P n (turns_in (lists_ended p g) n)) (sym this) (subst (P a) (sym last) here)
      | inr other ↦ let less : k < a = omega (arith, few, other) in subst (P k) (sym (earlier k less)) (so_far k less)
    ]

    pub took_part_now : AllTookPart p (lists_ended p g)
    took_part_now k few =
        each_now (λ n. TookPart p) (λ i less. before.took_part i (let was = before.count in omega (arith, less, was))) took k (let is = count_now in omega (arith, few, is))

    done_now : IsDoneByAll p (ds a) h → (k : ℕ) → k < a + 1 → IsDoneByAll p (ds k) (turns_in (lists_ended p g) k)
    done_now = each_now (λ n. IsDoneByAll p (ds n)) before.done

    pub done_good : IsDoneByAll p (ds a) h → AllAreDone p ds (lists_ended p g) (outcome.Shuffled a)
    done_good here k few = done_now here k (let is = count_now in omega (arith, few, is))

    pub done_cut : (why : VaultFault) → AllAreDone p ds (lists_ended p g) (outcome_of why)
    done_cut (fault.Device number) k few =
        let less : k < a = let is = count_now in omega (arith, few, is) in subst (IsDoneByAll p (ds k)) (sym (earlier k less)) (before.done k less)
    done_cut (fault.Tampered number) k few =
        let less : k < a = let is = count_now in omega (arith, few, is) in subst (IsDoneByAll p (ds k)) (sym (earlier k less)) (before.done k less)

    room_left : (o : Outcome) → Stands faults p ds (ended_as g o) → length g.history < g.room
    room_left o stands =
        let long = length-append g.history (g.plan.workers ∷ []) in
        let entries = stands.of.entries in
        omega (arith, long, entries)

    -- the history is that of its lists, where nobody had entered before the first attempt
    alone : pre ≡ [] → g.history ++ p.workers ∷ [] ≡ history_of p (lists_ended p g)
    alone none = historied ∙ ap (λ (xs : List ℕ). xs ++ history_of p (lists_ended p g)) none

    -- it is over
    module _ (v : Verdict) (end : AttemptEnd faults p ds a g (Ok v)) where
      verdict_now : v ≡ verdict_in p ds (lists_ended p g) a
      verdict_now = sym end.2 ∙ ap₂ (λ (q : Sizes) (t : List ℕ). verdict q (ds a) t) same (sym last)

      pub ends_good : pre ≡ [] → is_good v ≡ true → (count : ℕ) → MayEnd faults p ds (lists_ended p g) count count g failures (outcome.Shuffled a)
      ends_good none good count =
          let stands = ends_shuffled faults p ds g a end.0 end.1 (ap is_good end.2 ∙ good) in
          record {
            stands = stands;
            room = room_left (outcome.Shuffled a) stands;
            history = alone none;
            turns = sym (take_all (a + 1) (lists_ended p g) (let is = count_now in omega (arith, is)));
            failed = failed_before ∙ ap (λ (n : ℕ). map (verdict_in p ds (lists_ended p g)) (below n)) (let is = count_now in omega (arith, is));
            batch = refl;
          }

      failed_is : is_good v ≡ false → is_failed g.plan (ds a) (turns_made g) ≡ true
      failed_is bad =
          ap (λ (c : Bool). cond c (cond (is_good (verdict g.plan (ds a) (turns_made g))) false true) false) end.1
          ∙ ap (λ (w : Verdict). cond (is_good w) false true) end.2 ∙ ap (λ (c : Bool). cond c false true) bad

      pub leads_on : IsDoneByAll p (ds a) h → g.outcome ≡ None → is_good v ≡ false → IsBetween faults p ds pre (a + 1) g (failures ++ v ∷ [])
      leads_on done goes_on bad = record {
        plan = same;
        next = λ more. begins_again faults p ds g a end.0 (failed_is bad) goes_on more;
        over = λ some is_last. ends_failed faults p ds g a end.0 (failed_is bad) is_last;
        count = count_now;
        history = historied;
        failed =
            ap₂ (λ (xs : List Verdict) (w : Verdict). xs ++ w ∷ []) failed_before verdict_now
            ∙ sym (ap (λ (n : ℕ). map (verdict_in p ds (lists_ended p g)) (below n)) (add-one a) ∙ map-below-suc (verdict_in p ds (lists_ended p g)) a);
        took_part = took_part_now;
        done = done_now done;
      }

    -- an access cut it
    counted : (why : VaultFault) (b accesses count : ℕ) → IsCounted b accesses count count (outcome_of why)
    counted (fault.Device number) b accesses count = refl
    counted (fault.Tampered number) b accesses count = refl

    stored : (why : VaultFault) (xs : List (List ℕ)) → AreStored xs xs (outcome_of why)
    stored (fault.Device number) xs = cut_same xs
    stored (fault.Tampered number) xs = cut_same xs

    failures_cut : (why : VaultFault) (n : ℕ) → n ≡ a + 1 → failures ≡ map (verdict_in p ds (lists_ended p g)) (below (failed_of (outcome_of why) n))
    failures_cut (fault.Device number) n is = failed_before ∙ ap (λ (n : ℕ). map (verdict_in p ds (lists_ended p g)) (below n)) (omega (arith, is))
    failures_cut (fault.Tampered number) n is = failed_before ∙ ap (λ (n : ℕ). map (verdict_in p ds (lists_ended p g)) (below n)) (omega (arith, is))

    pub ends_cut : pre ≡ [] → (why : VaultFault) → AttemptEnd faults p ds a g (Err why) → (count : ℕ) → MayEnd faults p ds (lists_ended p g) count count g failures (outcome_of why)
    ends_cut none why stands count = record {
      stands = stands;
      room = room_left (outcome_of why) stands;
      history = alone none;
      turns = stored why (lists_ended p g);
      failed = failures_cut why (length (lists_ended p g)) count_now;
      batch = counted why p.b (length g.recorder.trace) count;
    }

-- all have failed
pub ends_all : {V : Type 0} (faults : V → ℕ) (p : Sizes) (ds : ℕ → Draw) (pre : List ℕ) (a : ℕ) (f : Parts V) (failures : List Verdict)
    → IsBetween faults p ds pre a f failures → pre ≡ [] → 1 ≤ a → a ≡ p.attempts → (count : ℕ) → MayEnd faults p ds (lists_ended p f) count count f failures outcome.Overflow
ends_all faults p ds pre a f failures before none some last count =
    let stands = before.over some last in
    record {
      stands = stands;
      room = let long = length-append f.history (f.plan.workers ∷ []) in let entries = stands.of.entries in omega (arith, long, entries);
      history = before.history ∙ ap (λ (xs : List ℕ). xs ++ history_of p (lists_ended p f)) none;
      turns = refl;
      failed = before.failed ∙ ap (λ (n : ℕ). map (verdict_in p ds (lists_ended p f)) (below n)) (sym before.count);
      batch = refl;
    }

pub few_all : {V : Type 0} (faults : V → ℕ) (p : Sizes) (ds : ℕ → Draw) (pre : List ℕ) (a : ℕ) (f : Parts V) (failures : List Verdict) → IsBetween faults p ds pre a f failures → a ≤ p.attempts
    → length (lists_ended p f) ≤ p.attempts
few_all faults p ds pre a f failures before most = let is = before.count in omega (arith, is, most)

pub done_all : {V : Type 0} (faults : V → ℕ) (p : Sizes) (ds : ℕ → Draw) (pre : List ℕ) (a : ℕ) (f : Parts V) (failures : List Verdict) → IsBetween faults p ds pre a f failures
    → AllAreDone p ds (lists_ended p f) outcome.Overflow
done_all faults p ds pre a f failures before k few = before.done k (let is = before.count in omega (arith, few, is))

-- no attempt was begun before the first one
pub none_before : {V : Type 0} (faults : V → ℕ) (p : Sizes) (ds : ℕ → Draw) (f : Parts V) → Stands faults p ds (begun_as f 0) → f.plan ≡ p → begun p.workers f.history ≡ 0
none_before faults p ds f stands plan =
    let one : begun p.workers (f.history ++ p.workers ∷ []) ≡ 1 =
    ap (λ (q : Sizes). begun p.workers (f.history ++ q.workers ∷ [])) (sym plan) ∙ begun_is faults p ds (begun_as f 0) stands 0 refl in
    let more = begun-owner p.workers f.history in
    omega (arith, one, more)

-- nobody had entered before the first attempt
pub alone_now : (w a : ℕ) (pre now : List ℕ) → (1 ≤ a → pre ≡ []) → (a ≡ 0 → now ≡ pre) → All (λ n. n < w + 1) pre → times w pre ≡ 0
    → (a ≡ 0 → (k : ℕ) → k < w → times k now ≡ 0) → pre ≡ []
alone_now w a pre now later first named own fresh = elim (cases_eq a 0) [
  | inl start ↦ nobody w pre named (λ k less. ap (times k) (sym (first start)) ∙ fresh start k less) own
  | inr some ↦ later (omega (arith, some))
]
