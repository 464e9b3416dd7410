-- What a turn shows, by the mark and the entries after it, and what a worker needs that comes in.
use Rattle.std.proofs.Common.{◌≡◌, ◌≢◌, ℕ, ◌+◌, ◌-◌, ◌*◌, ◌%◌, ◌<◌, ◌≤◌, Bool, true, false, List, [], ◌∷◌, ◌++◌, length, Option, Some, None, refl, sym, ap, ◌∙◌, subst, arith, inl, inr, length-append}
use Rattle.std.specs.Prelude.{◌==◌, if◌then◌else◌}
use Rattle.std.proofs.lemmas.Bool.{eq-eqb}
use Rattle.std.proofs.lemmas.List.{get_or_at}
use Rattle.std.proofs.Math.Nat.{mod-eq_of_lt}
use Rattle.esa_laws.proofs.HistoryLaws.{latest-worker}
use Rattle.esa_laws.proofs.Tests.{unequal}
use Rattle.esa_params.specs.Sizes.{Sizes}
use Rattle.esa_spec.specs.Draws.{Draw}
use Rattle.esa_spec.specs.Histories.{begun, latest}
use Rattle.esa_spec.specs.Turns.{next, turns_of}
use Rattle.esa_spec.specs.declared.event.Event.{Event}
use Rattle.esa_spec.specs.declared.event.Event.TheVariants as event
use Rattle.esa_floor.specs.Acts.{answer_in, answer_of}
use Rattle.esa_floor.specs.Marks.{code_of, mark_of}
use Rattle.esa_floor.specs.Parts.{Parts}
use Rattle.esa_floor.specs.Standing.{IsAt, IsAtWork, Stands, attempt_begun, turns_made}
use Rattle.esa_floor.specs.Workers.{WorkerStands}
use Rattle.esa_floor.specs.Working.{Working, begun_with}
use Rattle.esa_floor.specs.declared.turn.Outcome.{Outcome}
use Rattle.esa_floor.specs.declared.turn.Outcome.TheVariants as outcome
use Rattle.esa_floor.specs.declared.turn.Stop.{Stop}
use Rattle.esa_floor.specs.declared.turn.Turn.{Turn}
use Rattle.esa_floor.specs.declared.turn.Turn.TheVariants as turn
use Rattle.esa_floor.proofs.Resting.{working}
use Rattle.esa_workers.specs.Works.{FoundNone, GoesOn, HasStopped, IsIdle, Leaves, Shows, is_last}

-- the mark at so many of the owner's entries
abbrev pub mark_at : ℕ → Option Outcome → Option Stop → ℕ
mark_at m o s = if m == 0 then 0 else 8 * m + code_of o s

-- there is a number
abbrev pub Is_there : Option ℕ → Type 0
Is_there None = ⊥
Is_there (Some a) = Unit {0}

pub there : (a : ℕ) → Some a ≢ None
there a never = subst Is_there never tt

mark_few : (m c : ℕ) (none : Bool) → c ≤ 4 → (if none then 0 else 8 * m + c) ≤ 8 * m + 4
mark_few m c true few = omega arith
mark_few m c false few = omega (arith, few)

code_few : (o : Outcome) (s : Option Stop) → code_of (Some o) s ≤ 4
code_few (outcome.Shuffled a) s = omega arith
code_few outcome.Overflow s = omega arith
code_few (outcome.DeviceFault n) s = omega arith
code_few (outcome.Tampered n) s = omega arith
code_few outcome.BatchFailed s = omega arith

pub mark_in : (m : ℕ) (s : Option Stop) → 1 ≤ m → mark_at m None s ≡ 8 * m + code_of None s
mark_in m s some = ap (λ (z : Bool). if z then 0 else 8 * m + code_of None s) (unequal m 0 (λ none. absurd (omega (arith, none, some))))

mark_none : (m : ℕ) (o : Option Outcome) (s : Option Stop) → m ≡ 0 → mark_at m o s ≡ 0
mark_none m o s none = ap (λ (z : Bool). if z then 0 else 8 * m + code_of o s) (eq-eqb m 0 none)

module _ {V : Type 0} (faults : V → ℕ) (p : Sizes) (ds : ℕ → Draw) (f : Parts V) (stands : Stands faults p ds f) where
  pub mark_is : mark_of f ≡ mark_at (begun p.workers f.history) f.outcome f.stop
  mark_is = ap (λ (q : Sizes). mark_at (begun q.workers f.history) f.outcome f.stop) stands.of.plan

  -- in no attempt
  idle_by : (o : Option Outcome) → f.outcome ≡ o → IsAt faults ds f o None → mark_at (begun p.workers f.history) o f.stop ≤ 8 * begun p.workers f.history + 4
  idle_by (Some o) is at = mark_few (begun p.workers f.history) (code_of (Some o) f.stop) (begun p.workers f.history == 0) (code_few o f.stop)
  idle_by None is at =
      let none : begun p.workers f.history ≡ 0 = ap (λ (q : Sizes). begun q.workers f.history) (sym stands.of.plan) ∙ at.none_begun in
      let mark = mark_none (begun p.workers f.history) None f.stop none in
      omega (arith, mark)

  pub idle : f.attempt ≡ None → IsIdle p f.history (mark_of f)
  idle none =
      subst (λ (m : ℕ). m ≤ 8 * begun p.workers f.history + 4) (sym mark_is)
      (idle_by f.outcome refl (subst (IsAt faults ds f f.outcome) none stands.state))

  -- in an attempt
  module _ (a : ℕ) (in_it : f.attempt ≡ Some a) where
    at : (f.outcome ≡ None) × IsAtWork faults ds f (attempt_begun f) × (f.attempt ≡ Some (attempt_begun f))
    at = working faults ds f f.outcome f.attempt stands.state (λ none. there a (sym in_it ∙ none))

    some_is : (x y : ℕ) → Some x ≡ Some y → x ≡ y
    some_is x y is = ap (λ (o : Option ℕ). number_in o) is
      where
        number_in : Option ℕ → ℕ
        number_in None = 0
        number_in (Some n) = n

    a_is : a ≡ attempt_begun f
    a_is = some_is a (attempt_begun f) (sym in_it ∙ at.2)

    pub some_begun : 1 ≤ begun p.workers f.history
    some_begun = subst (λ (q : Sizes). 1 ≤ begun q.workers f.history) stands.of.plan at.1.some_begun

    pub begun_is : begun p.workers f.history ≡ a + 1
    begun_is =
        let is : a ≡ begun p.workers f.history - 1 = a_is ∙ ap (λ (q : Sizes). begun q.workers f.history - 1) stands.of.plan in
        let some = some_begun in
        omega (arith, is, some)

    pub planned : a < f.plan.attempts
    planned = subst (λ (x : ℕ). x < f.plan.attempts) (sym a_is) at.1.planned

    pub few_begun : begun p.workers f.history ≤ p.attempts
    few_begun =
        let few = subst (λ (q : Sizes). a < q.attempts) stands.of.plan planned in
        let is = begun_is in
        omega (arith, few, is)

    pub mark_here : mark_of f ≡ 8 * begun p.workers f.history + code_of None f.stop
    mark_here =
        mark_is ∙ ap (λ (o : Option Outcome). mark_at (begun p.workers f.history) o f.stop) at.0
        ∙ mark_in (begun p.workers f.history) f.stop some_begun

    pub mark_on : (s : Option Stop) → f.stop ≡ s → mark_of f ≡ 8 * begun p.workers f.history + code_of None s
    mark_on s is = mark_here ∙ ap (λ (s : Option Stop). 8 * begun p.workers f.history + code_of None s) is

-- what a turn shows
module _ {V : Type 0} (faults : V → ℕ) (p : Sizes) (ds : ℕ → Draw) (f g : Parts V) (n : ℕ) (before : Stands faults p ds f) (stands : Stands faults p ds g)
    (worker : n < f.plan.workers) (history : g.history ≡ f.history ++ n ∷ []) where
  abbrev h : List ℕ
  h = latest p.workers f.history

  other : n ≢ p.workers
  other same = let few = subst (λ (q : Sizes). n < q.workers) before.of.plan worker in absurd (omega (arith, few, same))

  turns : latest p.workers g.history ≡ h ++ n ∷ []
  turns = ap (latest p.workers) history ∙ latest-worker p.workers f.history n other

  next_is : next f.plan.b (turns_made f) n ≡ next p.b h n
  next_is = ap (λ (q : Sizes). next q.b (latest q.workers f.history) n) before.of.plan

  -- by the event of the turn, where there is no stop after it
  module _ (a : ℕ) (in_it : g.attempt ≡ Some a) (runs : g.stop ≡ None) where
    mark : 8 * begun p.workers g.history + 5 ≤ mark_of g
    mark = let is = mark_on faults p ds g stands a in_it None runs in omega (arith, is)

    goes_on : next p.b h n ≢ event.Done → GoesOn p g.history (mark_of g) n
    goes_on found = record {
      at_work = mark;
      some_begun = some_begun faults p ds g stands a in_it;
      planned = few_begun faults p ds g stands a in_it;
      before = h;
      turns = turns;
      found = found;
    }

    found_none : next p.b h n ≡ event.Done → FoundNone p.b (latest p.workers g.history) n
    found_none done = subst (λ (t : List ℕ). FoundNone p.b t n) (sym turns) (record {
      place = length h;
      inside = let long = length-append h (n ∷ []) in omega (arith, long);
      own = get_or_at h n [] 0 (length h) refl;
      done = done;
    })

    shown_by : (e : Event) → next p.b h n ≡ e → Shows p g.history (mark_of g) n (answer_of e None)
    shown_by (event.Claim j) is = goes_on (λ done. absurd (cc))
    shown_by (event.Read j) is = goes_on (λ done. absurd (cc))
    shown_by (event.Exchange j) is = goes_on (λ done. absurd (cc))
    shown_by (event.Write j i) is = goes_on (λ done. absurd (cc))
    shown_by event.Done is = inl (found_none is)
    shown_by event.Idle is = goes_on (λ done. absurd (cc))

  shown_in : (a : ℕ) → g.attempt ≡ Some a → (s : Option Stop) → g.stop ≡ s → (e : Event) → next p.b h n ≡ e → Shows p g.history (mark_of g) n (answer_of e s)
  shown_in a in_it None runs e is = shown_by a in_it runs e is
  shown_in a in_it (Some s) stopped e is =
      let mark : HasStopped p g.history (mark_of g) = let here = mark_on faults p ds g stands a in_it (Some s) stopped in omega (arith, here) in
      mark

  shown_at : (o : Option ℕ) → g.attempt ≡ o → Shows p g.history (mark_of g) n (answer_in o (next p.b h n) g.stop)
  shown_at None none = inr (idle faults p ds g stands none)
  shown_at (Some a) in_it = shown_in a in_it g.stop refl (next p.b h n) refl

  pub shown : (t : Turn) → g.attempt ≡ f.attempt → t ≡ answer_in f.attempt (next f.plan.b (turns_made f) n) g.stop → Shows p g.history (mark_of g) n t
  shown t same is =
      subst (Shows p g.history (mark_of g) n) (sym (is ∙ ap (λ (e : Event). answer_in f.attempt e g.stop) next_is))
      (shown_at f.attempt same)

-- a worker that begins an attempt in which it had no turn
pub started : {V C : Type 0} (f : Parts V) (w : Working C) (a : ℕ) → f.attempt ≡ Some a → turns_of w.number (turns_made f) ≡ 0 → WorkerStands f (begun_with w a)
started f w a in_it none = record {
  attempt = sym in_it;
  round = λ runs. record {
    phase = sym (ap (λ (k : ℕ). k % (f.plan.b + 3)) none ∙ mod-eq_of_lt (omega arith));
    bucket = λ more. absurd (more refl);
    read = λ second inside. absurd (omega (arith, second));
    exchanged = λ third inside. absurd (omega (arith, third));
  };
}

-- what the last turn shows, and what one before it does
pub last_leaves : (p : Sizes) (seen : List ℕ) (mark n : ℕ) (t : Turn) → is_last t ≡ true → Shows p seen mark n t → Leaves p seen mark n t
last_leaves p seen mark n turn.Done is shows = shows
last_leaves p seen mark n (turn.Stopped s) is shows = shows
last_leaves p seen mark n (turn.Claimed j) is shows = absurd (cc)
last_leaves p seen mark n (turn.Read j) is shows = absurd (cc)
last_leaves p seen mark n (turn.Exchanged j) is shows = absurd (cc)
last_leaves p seen mark n (turn.Wrote j i) is shows = absurd (cc)
last_leaves p seen mark n turn.Idle is shows = absurd (cc)

pub more_goes_on : (p : Sizes) (seen : List ℕ) (mark n : ℕ) (t : Turn) → is_last t ≡ false → Shows p seen mark n t → GoesOn p seen mark n
more_goes_on p seen mark n turn.Done is shows = absurd (cc)
more_goes_on p seen mark n (turn.Stopped s) is shows = absurd (cc)
more_goes_on p seen mark n (turn.Claimed j) is shows = shows
more_goes_on p seen mark n (turn.Read j) is shows = shows
more_goes_on p seen mark n (turn.Exchanged j) is shows = shows
more_goes_on p seen mark n (turn.Wrote j i) is shows = shows
more_goes_on p seen mark n turn.Idle is shows = shows
