-- How an attempt ends, by its turns or by what came after them.
use Rattle.std.proofs.Common.{◌≡◌, ◌≢◌, ℕ, ◌+◌, ◌<◌, Bool, true, false, cond, List, [], ◌∷◌, ◌++◌, length, take, drop, get_or, Option, Some, None, Ok, Err, refl, sym, ap, ◌∙◌, subst, arith, take-append-drop, length-append}
use Rattle.std.proofs.lemmas.List.{length-take-le, take_more}
use Rattle.esa_laws.proofs.AfterLaws.{keeps}
use Rattle.esa_laws.proofs.FailLaws.{failing-on}
use Rattle.esa_laws.proofs.TurnLaws.{event_at-append}
use Rattle.esa_laws.proofs.VerdictLaws.{failing-by, finished-now, verdict-now}
use Rattle.esa_params.specs.Sizes.{Sizes}
use Rattle.esa_spec.specs.Draws.{Draw}
use Rattle.esa_spec.specs.Lines.{overflows}
use Rattle.esa_spec.specs.Turns.{event_at, exchanged, next, order}
use Rattle.esa_spec.specs.Verdicts.{failing, is_finished, is_good, steps, verdict}
use Rattle.esa_spec.specs.declared.event.Event.TheVariants.{Exchange}
use Rattle.esa_spec.specs.declared.event.Verdict.{Verdict}
use Rattle.esa_spec.specs.declared.event.Verdict.TheVariants as verdicts
use Rattle.esa_floor.specs.Parts.{Parts, ended_as}
use Rattle.esa_floor.specs.Standing.{IsAtWork, Stands, StopsAt, attempt_begun, turns_made}
use Rattle.esa_floor.specs.declared.turn.Outcome.TheVariants as outcome
use Rattle.esa_floor.specs.declared.turn.Stop.{Stop}
use Rattle.esa_floor.specs.declared.turn.Stop.TheVariants as stop
use Rattle.esa_vault.specs.declared.fault.VaultFault.{VaultFault}
use Rattle.esa_vault.specs.declared.fault.VaultFault.TheVariants as fault
use Rattle.esa_press.specs.Drained.{DrainEnd}
use Rattle.esa_press.specs.Over.{HasFailed, IsCut, IsDistributed}
use Rattle.esa_press.specs.Stepped.{AreMade}
use Rattle.esa_press.specs.declared.halt.Halt.{Halt}
use Rattle.esa_press.specs.declared.halt.Halt.TheVariants as halt
use Rattle.esa_crew.proofs.Finishing.{ends_at_fault, ends_tampered, has_failed, is_over, turn_fault, turn_tampered}
use Rattle.esa_floor.proofs.Resting.{working}
use Rattle.esa_press.proofs.Finishing.{drain_cut, drain_fails, press_bad, press_cut, press_good}
use Rattle.esa_shuffle.specs.Attempts.{AttemptEnd, end_of}

-- an exchange that overflows
module _ (p : Sizes) (d : Draw) (h : List ℕ) (done j : ℕ) (inside : done < length h) (event : event_at p.b h done ≡ Exchange j) (runs : failing p d (order p.b (take done h)) ≡ None)
    (over : overflows p d (order p.b (take done h) ++ j ∷ []) (length (order p.b (take done h))) ≡ true)
  where
    abbrev g : List ℕ
    g = take done h

    abbrev w : ℕ
    w = get_or h done 0

    abbrev rest : List ℕ
    rest = drop (done + 1) h

    whole : h ≡ (g ++ w ∷ []) ++ rest
    whole = sym (take-append-drop (done + 1) h) ∙ ap (λ (xs : List ℕ). xs ++ rest) (take_more h done 0 inside)

    now : next p.b g w ≡ Exchange j
    now =
        let long : length g ≡ done = length-take-le done h (omega arith) in
        sym (event_at-append p.b (g ++ w ∷ []) rest (length g) (let more = length-append g (w ∷ []) in omega (arith, more)))
        ∙ ap (λ (xs : List ℕ). event_at p.b xs (length g)) (sym whole) ∙ ap (event_at p.b h) long ∙ event

    -- it decides the verdict
    verdict_by : verdict p d h ≡ verdicts.StashOverflow j
    verdict_by =
        ap (verdict p d) whole ∙ (keeps p d 0 (g ++ w ∷ []) rest (finished-now p d g w j runs (ap exchanged now) over)).verdict_same
        ∙ verdict-now p d g w j runs (ap exchanged now) over

    -- and it is the one that fails
    fails_by : failing p d (order p.b h) ≡ Some (length (order p.b g))
    fails_by =
        ap (λ (xs : List ℕ). failing p d (order p.b xs)) whole
        ∙ failing-on p d (g ++ w ∷ []) rest (length (order p.b g)) (failing-by p d g w j runs (ap exchanged now) true over)

-- a verdict that is good
pub good_is : (v : Verdict) → is_good v ≡ true → v ≡ verdicts.Good
good_is verdicts.Good e = refl
good_is (verdicts.StashOverflow j) e = absurd (cc)
good_is (verdicts.StashLeft j) e = absurd (cc)
good_is (verdicts.QueueOverflow j) e = absurd (cc)
good_is (verdicts.QueueStarved j) e = absurd (cc)

finished_is : (x y : Bool) → cond x (cond y false true) false ≡ true → x ≡ true
finished_is true y e = refl
finished_is false y e = absurd (cc)

-- an attempt that failed
pub failed_end : {V : Type 0} (faults : V → ℕ) (p : Sizes) (ds : ℕ → Draw) (f : Parts V) (a : ℕ) (v : Verdict) → HasFailed faults p ds f a v → AttemptEnd faults p ds a f (Ok v)
failed_end faults p ds f a v has = (
  has.over,
  finished_is (is_finished f.plan (ds a) (turns_made f)) (is_good (verdict f.plan (ds a) (turns_made f))) has.failed,
  has.verdict_is,
)

-- an attempt that an access has cut
pub cut_end : {V : Type 0} (faults : V → ℕ) (p : Sizes) (ds : ℕ → Draw) (f : Parts V) (a : ℕ) (why : VaultFault) → IsCut faults p ds f a why → AttemptEnd faults p ds a f (Err why)
cut_end faults p ds f a (fault.Device number) cut =
    subst (λ (n : ℕ). Stands faults p ds (ended_as f (outcome.DeviceFault n))) (sym cut.cause.0)
    (ends_at_fault faults p ds f a cut.made cut.has_made cut.access cut.begins cut.ends cut.cause.1)
cut_end faults p ds f a (fault.Tampered number) cut =
    subst (λ (n : ℕ). Stands faults p ds (ended_as f (outcome.Tampered n))) (sym cut.cause.0)
    (ends_tampered faults p ds f a cut.made cut.has_made cut.access cut.begins cut.ends cut.cause.4 cut.cause.1 cut.cause.2 cut.cause.3)

-- turns that have stopped
module _ {V : Type 0} (faults : V → ℕ) (p : Sizes) (ds : ℕ → Draw) (f : Parts V) (a : ℕ) (stands : Stands faults p ds f) (at : f.attempt ≡ Some a) (room : length f.history < f.room) where
  some : f.attempt ≢ None
  some never = let clash : Some a ≡ None = sym at ∙ never in cc clash

  pub number_is : attempt_begun f ≡ a
  number_is = let same : Some (attempt_begun f) ≡ Some a = sym (working faults ds f f.outcome f.attempt stands.state some).2 ∙ at in cc same

  at_work : IsAtWork faults ds f (attempt_begun f)
  at_work = (working faults ds f f.outcome f.attempt stands.state some).1

  overflows_at : (j : ℕ) → f.stop ≡ Some (stop.StashOverflow j) → StopsAt faults (ds (attempt_begun f)) (attempt_begun f) f at_work.done (Some (stop.StashOverflow j))
  overflows_at j stopped = subst (λ (s : Option Stop). StopsAt faults (ds (attempt_begun f)) (attempt_begun f) f at_work.done s) stopped at_work.stops

  -- an exchange failed
  pub overflow_fails : (j : ℕ) → f.stop ≡ Some (stop.StashOverflow j) → failing f.plan (ds a) (order f.plan.b (turns_made f)) ≢ None
  overflow_fails j stopped none =
      let why = overflows_at j stopped in
      let some = fails_by f.plan (ds (attempt_begun f)) (turns_made f) at_work.done j why.0 why.1 at_work.spread.runs why.2 in
      let runs = ap (λ (n : ℕ). failing f.plan (ds n) (order f.plan.b (turns_made f))) number_is ∙ none in
      let clash = sym some ∙ runs in
      absurd (cc clash)

  pub overflow_end : (j : ℕ) → f.stop ≡ Some (stop.StashOverflow j) → AttemptEnd faults p ds a f (Ok (verdicts.StashOverflow j))
  overflow_end j stopped =
      let why = overflows_at j stopped in
      subst (λ (n : ℕ). AttemptEnd faults p ds n f (Ok (verdicts.StashOverflow j))) number_is (
        is_over faults p ds f stands some room j stopped,
        finished_is (is_finished f.plan (ds (attempt_begun f)) (turns_made f)) (is_good (verdict f.plan (ds (attempt_begun f)) (turns_made f)))
            (has_failed faults p ds f stands some room j stopped),
        verdict_by f.plan (ds (attempt_begun f)) (turns_made f) at_work.done j why.0 why.1 at_work.spread.runs why.2,
      )

  pub fault_end : (number : ℕ) → f.stop ≡ Some (stop.DeviceFault number) → AttemptEnd faults p ds a f (Err (fault.Device number))
  fault_end number stopped = turn_fault faults p ds f stands some room number stopped

  pub tampered_end : (number : ℕ) → f.stop ≡ Some (stop.Tampered number) → AttemptEnd faults p ds a f (Err (fault.Tampered number))
  tampered_end number stopped = turn_tampered faults p ds f stands some room number stopped

-- an attempt whose chunks are all written
module _ {V : Type 0} (faults : V → ℕ) (p : Sizes) (ds : ℕ → Draw) (f : Parts V) (a : ℕ) (ready : IsDistributed faults p ds f a) where
  -- its drain was not done
  pub drain_ends : (new : Parts V) (why : Halt) → DrainEnd {T = Unit {0}} faults (ds a) (order f.plan.b (turns_made f)) a f new (Err why) → AttemptEnd faults p ds a new (end_of why)
  drain_ends new (halt.Verdict v) end = failed_end faults p ds new a v (drain_fails faults p ds f a ready new v end)
  drain_ends new (halt.Fault fault) end = cut_end faults p ds new a fault (drain_cut faults p ds f a ready new fault end)

  -- its compression
  module _ (x new : Parts V) (done : Unit {0}) (drained : DrainEnd faults (ds a) (order f.plan.b (turns_made f)) a f x (Ok done))
      (same : new ≡ record x { recorder = new.recorder }) (plan : new.recorder.plan ≡ x.recorder.plan)
      (total : length new.recorder.trace + new.recorder.room ≡ length x.recorder.trace + x.recorder.room)
    where
      pub press_done : (again : Unit {0}) → AreMade faults x.plan x.run (ds a) (order x.plan.b (turns_made x)) a (steps x.plan) x.recorder new.recorder (Ok again)
          → AttemptEnd faults p ds a new (Ok verdicts.Good)
      press_done again made =
          let end = press_good faults p ds f a ready x new.recorder done again drained made (plan, total) in
          subst (λ (y : Parts V). AttemptEnd faults p ds a y (Ok verdicts.Good)) (sym same)
          (end.0, end.1, good_is (verdict x.plan (ds a) (turns_made x)) end.2)

      pub press_ends : (why : Halt) → AreMade {T = Unit {0}} faults x.plan x.run (ds a) (order x.plan.b (turns_made x)) a (steps x.plan) x.recorder new.recorder (Err why)
          → AttemptEnd faults p ds a new (end_of why)
      press_ends (halt.Verdict v) made =
          subst (λ (y : Parts V). AttemptEnd faults p ds a y (Ok v)) (sym same)
          (failed_end faults p ds (record x { recorder = new.recorder }) a v (press_bad faults p ds f a ready x new.recorder done v drained made (plan, total)))
      press_ends (halt.Fault fault) made =
          subst (λ (y : Parts V). AttemptEnd faults p ds a y (Err fault)) (sym same)
          (cut_end faults p ds (record x { recorder = new.recorder }) a fault (press_cut faults p ds f a ready x new.recorder done fault drained made (plan, total)))
