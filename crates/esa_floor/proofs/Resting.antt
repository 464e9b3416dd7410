-- What an entry of a worker makes of a floor in any state: one in no attempt stands as before, and the mark does not fall.
use Rattle.std.proofs.Common.{◌≡◌, ◌≢◌, ℕ, ◌+◌, ◌*◌, ◌<◌, ◌≤◌, Bool, true, false, List, [], ◌∷◌, ◌++◌, length, Option, Some, None, refl, sym, ap, ◌∙◌, subst, arith}
use Rattle.std.specs.Prelude.{slice_index_or, ◌==◌, if◌then◌else◌}
use Rattle.std.proofs.Math.Nat.{suc-mul, mul-le-mul_right}
use Rattle.std.proofs.lemmas.List.{length-append, length-map}
use Rattle.std.proofs.lemmas.List.FromFn.{length-range_with_len}
use Rattle.esa_laws.proofs.HistoryLaws.{begun-worker, latest-worker, length-lists, lists-worker}
use Rattle.esa_laws.proofs.LengthLaws.{attempts-le, spread-le}
use Rattle.esa_outside.specs.Cause.{Rose}
use Rattle.esa_params.specs.Sizes.{Sizes, below}
use Rattle.esa_params.specs.Slots.{at, greatest_trace, slot_number}
use Rattle.esa_params.specs.declared.slot.Access.{Access}
use Rattle.esa_params.specs.declared.slot.Op.TheVariants.{Read as Reads}
use Rattle.esa_spec.specs.Draws.{Draw}
use Rattle.esa_spec.specs.Histories.{begun, latest, lists}
use Rattle.esa_spec.specs.Traces.{all_failed, attempts, good_attempt, load, shuffle_trace, spread, written_input}
use Rattle.esa_spec.specs.Turns.{order}
use Rattle.esa_vault.specs.Seals.{opens}
use Rattle.esa_floor.specs.Acts.{WorksOn, one_more}
use Rattle.esa_floor.specs.Marks.{code_of, mark_of}
use Rattle.esa_floor.specs.Parts.{Parts, with_entry}
use Rattle.esa_floor.specs.Standing.{EndsAs, IsAt, IsAtWork, IsOf, StopsAt, attempt_begun, lists_before, turns_made}
use Rattle.esa_spec.specs.Fronts.{Begins, EndsWith, items_in}
use Rattle.esa_floor.specs.Workers.{IsInRound, WorkerStands}
use Rattle.esa_floor.specs.Working.{Working}
use Rattle.esa_floor.specs.declared.turn.Outcome.{Outcome}
use Rattle.esa_floor.specs.declared.turn.Outcome.TheVariants as outcome
use Rattle.esa_floor.specs.declared.turn.Stop.{Stop}
use Rattle.esa_floor.proofs.Rounding.{other_round}
use Rattle.esa_floor.proofs.Turning.{traced_is}

abbrev There : Option Stop → Type 0
There None = ⊥
There (Some s) = Unit {0}

pub none_or_some : (s : Stop) → Some s ≢ None
none_or_some s never = subst There never tt

-- where a stop stays and there is none now, there was none
pub ran : (s now : Option Stop) → (s ≢ None → now ≡ s) → now ≡ None → s ≡ None
ran None now stays runs = refl
ran (Some s) now stays runs = sym (stays (none_or_some s)) ∙ runs

-- the turns stopped at the one behind so many
pub stops_behind : {V : Type 0} (faults : V → ℕ) (ds : ℕ → Draw) (f : Parts V) (a before : ℕ) (s : Option Stop) → f.stop ≡ s → s ≢ None
    → WorksOn faults ds f a before → StopsAt faults (ds a) a f before f.stop
stops_behind faults ds f a before None is some works = absurd (some refl)
stops_behind faults ds f a before (Some s) is some works =
    subst (λ (k : ℕ). StopsAt faults (ds a) a f k f.stop) (works.1 ∙ ap (one_more before) is) works.0.stops

-- attempts up to the last but one leave the rows of one attempt
rows : (a n x : ℕ) → a < n → a * x + x ≤ n * x
rows a n x less = let next = suc-mul a x in let product = mul-le-mul_right x less in omega (arith, next, product)

-- what is left of the most, by what the load, the attempts before and the turns have taken
left_over : (b x a n trace room earlier last : ℕ) → 1 ≤ b → 3 * b + n * x ≤ trace + room → trace ≡ (b + earlier) + last
    → earlier ≤ a * x → last ≤ b + b * b → a * x + x ≤ n * x → x ≡ 2 * b * b + 4 * b → 0 < room
left_over b x a n trace room earlier last some least all before spread within is = omega (arith, some, least, all, before, spread, within, is)

module _ {V : Type 0} (faults : V → ℕ) (ds : ℕ → Draw) (f : Parts V) where
  -- a floor in an attempt is at work in the one that was begun last
  pub working : (o : Option Outcome) (attempt : Option ℕ) → IsAt faults ds f o attempt → attempt ≢ None
      → (o ≡ None) × IsAtWork faults ds f (attempt_begun f) × (attempt ≡ Some (attempt_begun f))
  working (Some o) attempt at some = absurd (some at.0)
  working None None at some = absurd (some refl)
  working None (Some a) at some = (refl, subst (IsAtWork faults ds f) at.attempt at, ap Some at.attempt)

  pub works_on : (g : Parts V) (o : Option Outcome) (attempt : Option ℕ) → o ≡ None → attempt ≡ Some (attempt_begun f)
      → IsAtWork faults ds g (attempt_begun f) → IsAt faults ds g o attempt
  works_on g o attempt none some at =
      subst (λ (o : Option Outcome). IsAt faults ds g o attempt) (sym none) (subst (IsAt faults ds g None) (sym some) at)

  module _ (w : ℕ) (worker : w ≢ f.plan.workers) where
    lists_are : lists f.plan.workers (f.history ++ w ∷ []) ≡ lists_before f
    lists_are = lists-worker f.plan.workers f.history w worker

    begun_is : begun f.plan.workers (f.history ++ w ∷ []) ≡ begun f.plan.workers f.history
    begun_is = begun-worker f.plan.workers f.history w worker

    ends_on : (o : Outcome) → EndsAs faults ds f o → EndsAs faults ds (with_entry f w) o
    ends_on (outcome.Shuffled a) ends =
        subst (λ (l : List (List ℕ)). (f.recorder.trace ≡ shuffle_trace f.plan ds l)
        × (a < f.plan.attempts) × (good_attempt f.plan ds 0 l ≡ Some a) × (length l ≡ a + 1)
        × (faults f.recorder.device ≡ f.faults)) (sym lists_are) ends
    ends_on outcome.Overflow ends =
        subst (λ (l : List (List ℕ)). (f.recorder.trace ≡ shuffle_trace f.plan ds l)
        × (length l ≡ f.plan.attempts) × (all_failed f.plan ds 0 l ≡ true)
        × (faults f.recorder.device ≡ f.faults)) (sym lists_are) ends
    ends_on (outcome.DeviceFault number) ends =
        subst (λ (l : List (List ℕ)). (Begins f.recorder.trace (shuffle_trace f.plan ds l))
        × ((access : Access) × EndsWith f.recorder.trace access × (slot_number f.plan access ≡ number))
        × Rose f.faults (faults f.recorder.device)) (sym lists_are) ends
    ends_on (outcome.Tampered number) ends =
        subst (λ (l : List (List ℕ)). (Begins f.recorder.trace (shuffle_trace f.plan ds l))
        × ((access : Access) × EndsWith f.recorder.trace access × (access.op ≡ Reads) × (slot_number f.plan access ≡ number)
        × (opens f.plan f.run (at access.region access.index) access.attempt (items_in f.plan (ds access.attempt) (order f.plan.b (slice_index_or l access.attempt [])) access) f.recorder.last ≡ false))
        × (faults f.recorder.device ≡ f.faults)) (sym lists_are) ends
    ends_on outcome.BatchFailed ends =
        subst (λ (l : List (List ℕ)). (l ≡ []) × Begins f.recorder.trace (load f.plan) × (faults f.recorder.device ≡ f.faults)) (sym lists_are) ends

    rests : (o : Option Outcome) → IsAt faults ds f o None → IsAt faults ds (with_entry f w) o None
    rests (Some o) ended = (ended.0, subst (λ (n : ℕ). 1 ≤ n) (sym begun_is) ended.1, ends_on o ended.2)
    rests None new = record {
      none_begun = begun_is ∙ new.none_begun;
      trace = new.trace;
      queues = new.queues;
      counts = new.counts;
      runs = new.runs;
      calm = new.calm;
    }

    -- a floor in no attempt
    pub rests_on : f.attempt ≡ None → IsAt faults ds f f.outcome f.attempt → IsAt faults ds (with_entry f w) f.outcome f.attempt
    rests_on none rested =
        subst (IsAt faults ds (with_entry f w) f.outcome) (sym none) (rests f.outcome (subst (IsAt faults ds f f.outcome) none rested))

    -- its mark, by the stop that there is then
    pub begun_on : (g : Parts V) → g.plan ≡ f.plan → g.history ≡ f.history ++ w ∷ [] → begun g.plan.workers g.history ≡ begun f.plan.workers f.history
    begun_on g same longer =
        ap (λ (p : Sizes). begun p.workers g.history) same ∙ ap (begun f.plan.workers) longer ∙ begun_is

    pub turns_are : (g : Parts V) → g.plan ≡ f.plan → g.history ≡ f.history ++ w ∷ [] → turns_made g ≡ turns_made f ++ w ∷ []
    turns_are g same longer =
        ap (λ (p : Sizes). latest p.workers g.history) same ∙ ap (latest f.plan.workers) longer ∙ latest-worker f.plan.workers f.history w worker

    -- the floor with the entry is of the plan, where its accesses took no more room than they are
    pub of_on : (p : Sizes) (g : Parts V) → IsOf p f → length f.history < f.room → g.plan ≡ f.plan → g.history ≡ f.history ++ w ∷ [] → g.room ≡ f.room
        → g.recorder.plan ≡ f.recorder.plan → length g.recorder.trace + g.recorder.room ≡ length f.recorder.trace + f.recorder.room → IsOf p g
    of_on p g of fits same longer room ready left = record {
      plan = same ∙ of.plan;
      ready = ready ∙ of.ready;
      room = subst (λ (n : ℕ). greatest_trace p ≤ n) (sym left) of.room;
      entries = let long = ap length longer ∙ length-append f.history (w ∷ []) in omega (arith, long, fits, room);
    }

    -- a worker in its round, in the words of the floor with the entry
    pub round_on : {C : Type 0} (g : Parts V) → g.plan ≡ f.plan → g.history ≡ f.history ++ w ∷ [] → (x : Working C)
        → IsInRound f.plan.b (turns_made f ++ w ∷ []) x → IsInRound g.plan.b (turns_made g) x
    round_on g same longer x round =
        subst (λ (p : Sizes). IsInRound p.b (turns_made g) x) (sym same) (subst (λ (h : List ℕ). IsInRound f.plan.b h x) (sym (turns_are g same longer)) round)

    -- another worker stands as before
    pub others_on : {C : Type 0} (g : Parts V) → g.plan ≡ f.plan → g.history ≡ f.history ++ w ∷ [] → g.attempt ≡ f.attempt
        → (f.stop ≢ None → g.stop ≡ f.stop) → (x : Working C) → x.number ≢ w → WorkerStands f x → WorkerStands g x
    others_on g same longer attempt stays x apart stands = record {
      attempt = stands.attempt ∙ sym attempt;
      round = λ runs.
          round_on g same longer x (other_round f.plan.b (turns_made f) x (stands.round (ran f.stop g.stop stays runs)) w apart);
    }

  -- there is room for an access of the attempt
  pub room_left : (p : Sizes) → IsOf p f → IsAtWork faults ds f (attempt_begun f) → f.stop ≡ None → (w : ℕ) → w ≢ f.plan.workers → 1 ≤ f.plan.b → 0 < f.recorder.room
  room_left p of at_work runs w worker some =
      let a = attempt_begun f in
      let whole = ap length (traced_is faults ds f a w at_work worker runs) in
      let front = length-append (load f.plan ++ attempts f.plan ds 0 (lists_before f)) (spread f.plan (ds a) a (turns_made f)) in
      let before = length-append (load f.plan) (attempts f.plan ds 0 (lists_before f)) in
      let loaded = length-map (below f.plan.b) (written_input f.plan) ∙ length-range_with_len 0 f.plan.b in
      let earlier = attempts-le f.plan ds 0 (lists_before f) in
      let count = length-lists f.plan.workers f.history in
      let last = spread-le f.plan (ds a) a (turns_made f) in
      let least = subst (λ (q : Sizes). greatest_trace q ≤ length f.recorder.trace + f.recorder.room) (sym of.plan) of.room in
      let x = 2 * f.plan.b * f.plan.b + 4 * f.plan.b in
      let many = ap (λ (n : ℕ). n * x) count in
      let bounded = rows a f.plan.attempts x at_work.planned in
      left_over f.plan.b x a f.plan.attempts _ _ _ _ some least (whole ∙ front ∙ ap (λ (n : ℕ). n + length (spread f.plan (ds a) a (turns_made f))) (before ∙ ap (λ (n : ℕ). n + length (attempts f.plan ds 0 (lists_before f))) loaded))
      (subst (λ (n : ℕ). length (attempts f.plan ds 0 (lists_before f)) ≤ n) many earlier) last bounded refl

code_kept : (o : Outcome) (s now : Option Stop) → code_of (Some o) s ≡ code_of (Some o) now
code_kept (outcome.Shuffled a) s now = refl
code_kept outcome.Overflow s now = refl
code_kept (outcome.DeviceFault number) s now = refl
code_kept (outcome.Tampered number) s now = refl
code_kept outcome.BatchFailed s now = refl

-- the code does not fall where a stop stays
code_grows : (o : Option Outcome) (s now : Option Stop) → (s ≢ None → now ≡ s) → code_of o s ≤ code_of o now
code_grows (Some o) s now stays = let same = code_kept o s now in omega (arith, same)
code_grows None None None stays = omega arith
code_grows None None (Some s) stays = omega arith
code_grows None (Some s) now stays =
    subst (λ (o : Option Stop). 6 ≤ code_of None o) (sym (stays (none_or_some s))) (omega arith)

of_code : (none : Bool) (x y : ℕ) → x ≤ y → (if none then 0 else x) ≤ (if none then 0 else y)
of_code true x y less = omega arith
of_code false x y less = less

pub mark_grows : {V : Type 0} (f g : Parts V) → begun g.plan.workers g.history ≡ begun f.plan.workers f.history → g.outcome ≡ f.outcome
    → (f.stop ≢ None → g.stop ≡ f.stop) → mark_of f ≤ mark_of g
mark_grows f g same ended stays =
    let m = begun f.plan.workers f.history in
    subst (λ (n : ℕ). mark_of f ≤ (if n == 0 then 0 else 8 * n + code_of g.outcome g.stop)) (sym same)
    (subst (λ (o : Option Outcome). mark_of f ≤ (if m == 0 then 0 else 8 * m + code_of o g.stop)) (sym ended)
    (of_code (m == 0) (8 * m + code_of f.outcome f.stop) (8 * m + code_of f.outcome g.stop) (let code = code_grows f.outcome f.stop g.stop stays in omega (arith, code))))
