-- A run that has ended, in the words of its ending.
use Rattle.std.proofs.Common.{◌≡◌, ◌==◌, ℕ, ◌+◌, Bool, List, [], ◌∷◌, ◌++◌, length, map, sym, ap, ◌∙◌, subst, arith}
use Rattle.esa_laws.proofs.NonceLaws.{nonces-fresh}
use Rattle.esa_laws.proofs.SlotLaws.{input-once, slot-once}
use Rattle.esa_device.specs.Recording.{Recorded}
use Rattle.esa_envelope.specs.declared.keys.Keys.{Keys}
use Rattle.esa_params.specs.Sizes.{ArePlanned, Sizes, below}
use Rattle.esa_params.specs.Slots.{writes_number}
use Rattle.esa_params.specs.declared.slot.Slot.{Slot}
use Rattle.esa_spec.specs.Draws.{Draw}
use Rattle.esa_spec.specs.Fronts.{Begins}
use Rattle.esa_spec.specs.Traces.{shuffle_trace, scans, good_attempt, trace, writes_in, written_input, written_nonces}
use Rattle.esa_spec.specs.declared.event.Verdict.{Verdict}
use Rattle.esa_ending.specs.Endings.{Overflows}
use Rattle.esa_ending.specs.Seen.{AreCut, Seen, stored, verdict_in}
use Rattle.esa_floor.specs.Parts.{Parts}
use Rattle.esa_floor.specs.declared.turn.Outcome.{Outcome}
use Rattle.esa_floor.specs.declared.turn.Outcome.TheVariants as outcome
use Rattle.esa_ending.proofs.CutLaws.{cut-behind, cut-in-shuffle, overflowed, trace-front}
use Rattle.esa_ending.proofs.FrontLaws.{fewer, image-front, joined-front, load-front, nonces-front, onward, whole}
use Rattle.esa_shuffle.specs.Runs.{AreFresh, EndsRun, HasOutcome, MayEnd, opens_last, seen_of}

module _ {V : Type 0} (faults : V → ℕ) (ds : ℕ → Draw) (hs : List (List ℕ)) (before now : ℕ) (f : Parts V) (failures : List Verdict) where
  abbrev seen : ℕ → Seen
  seen owner = seen_of faults f.faults before f.recorder (f.history ++ owner ∷ []) now

  abbrev Ended : Sizes → Outcome → Type 0
  Ended p o = EndsRun p ds hs (seen f.plan.workers) (opens_last p f.run f.recorder.last) failures o

  abbrev May : Sizes → Outcome → Type 0
  May p o = MayEnd faults p ds hs before now f failures o

  has_outcome : (o : Outcome) → May f.plan o → HasOutcome f.plan ds hs (seen f.plan.workers) (opens_last f.plan f.run f.recorder.last) failures o
  has_outcome (outcome.Shuffled a) may =
      let end = may.stands.state.2 in
      record { planned = end.1; good = end.2; made = end.0; turns = may.turns; history = may.history; calm = (end.4, may.batch) }
  has_outcome outcome.Overflow may =
      let end = may.stands.state.2 in
      subst (Overflows f.plan ds hs (seen f.plan.workers)) (sym (may.failed ∙ ap (λ (n : ℕ). map (verdict_in f.plan ds hs) (below n)) end.1))
      (overflowed f.plan ds hs (seen f.plan.workers) may.history (end.3, may.batch) (sym (ap length may.turns) ∙ end.1) may.turns end.2 end.0)
  has_outcome (outcome.DeviceFault number) may =
      let end = may.stands.state.2 in
      record {
        access = end.1.0;
        cut = cut-in-shuffle f.plan ds hs (seen f.plan.workers) end.1.0 may.history may.turns end.1.1 end.0;
        slot = end.1.2;
        cause = end.2;
        batch = may.batch;
      }
  has_outcome (outcome.Tampered number) may =
      let end = may.stands.state.2 in
      record {
        access = end.1.0;
        cut = cut-in-shuffle f.plan ds hs (seen f.plan.workers) end.1.0 may.history may.turns end.1.1 end.0;
        slot = end.1.3;
        reads = end.1.2;
        closed = end.1.4;
        calm = (end.2, may.batch);
      }
  has_outcome outcome.BatchFailed may =
      let end = may.stands.state.2 in
      record {
        there = may.batch.0;
        written = image-front (written_input f.plan) f.plan.b f.recorder.trace end.1;
        turns = end.0;
        history = may.history;
        cause = may.batch.1;
        device = end.2;
      }

  ends_here : (o : Outcome) → May f.plan o → Ended f.plan o
  ends_here o may = record { outcome = has_outcome o may; failures_are = may.failed }

  ends : (p : Sizes) (o : Outcome) → May p o → Ended p o
  ends p o may = subst (λ (q : Sizes). May q o → Ended q o) may.stands.of.plan (ends_here o) may

  -- what is seen of the floor, once it was given up
  pub ends_seen : (p : Sizes) (o : Outcome) (counted : ℕ) (run : Keys) (r : Recorded V) (h : List ℕ) → f.faults ≡ counted → f.run ≡ run → r ≡ f.recorder
      → h ≡ f.history ++ f.plan.workers ∷ [] → May p o → EndsRun p ds hs (seen_of faults counted before r h now) (opens_last p run r.last) failures o
  ends_seen p o counted run r h same_count same_run same longer may =
      subst (λ (x : Recorded V). EndsRun p ds hs (seen_of faults counted before x h now) (opens_last p run x.last) failures o) (sym same)
      (subst (λ (x : List ℕ). EndsRun p ds hs (seen_of faults counted before f.recorder x now) (opens_last p run f.recorder.last) failures o) (sym longer)
      (subst (λ (k : Keys). EndsRun p ds hs (seen_of faults counted before f.recorder (f.history ++ f.plan.workers ∷ []) now) (opens_last p k f.recorder.last) failures o) same_run
      (subst (λ (n : ℕ). EndsRun p ds hs (seen_of faults n before f.recorder (f.history ++ f.plan.workers ∷ []) now) (opens_last p f.run f.recorder.last) failures o) same_count
      (ends p o may))))

-- its accesses begin the computed trace, so none of their writes repeats a nonce
module _ (p : Sizes) (ds : ℕ → Draw) (hs : List (List ℕ)) (seen : Seen) (opening : Slot → ℕ → ℕ → Bool) (failures : List Verdict) where
  front_is : (o : Outcome) → HasOutcome p ds hs seen opening failures o → Begins seen.trace (trace p ds hs)
  front_is (outcome.Shuffled a) is =
      let made = stored p seen in
      onward seen.trace (trace p ds made) (trace p ds hs)
      (subst (λ xs. Begins xs (trace p ds made)) (sym is.made) (joined-front (shuffle_trace p ds made) (scans p (good_attempt p ds 0 made))))
      (trace-front p ds made hs (subst (λ xs. AreCut xs hs) (sym is.turns) (cut-behind hs (a + 1))))
  front_is outcome.Overflow is = whole seen.trace (trace p ds hs) is.whole
  front_is (outcome.DeviceFault number) is = is.cut.front
  front_is (outcome.Tampered number) is = is.cut.front
  front_is outcome.BatchFailed is = load-front p ds hs (length seen.trace) seen.trace is.there is.written

  pub fresh : (o : Outcome) → EndsRun p ds hs seen opening failures o → ArePlanned p → AreFresh p seen.trace
  fresh o run planned =
      let front = front_is o run.outcome in
      record {
        nonces = λ nonce.
            let once = nonces-fresh p ds hs nonce planned in
            let few = fewer (λ n. n == nonce) (written_nonces seen.trace) (written_nonces (trace p ds hs)) (nonces-front seen.trace (trace p ds hs) front) in
            omega (arith, once, few);
        input = λ number number_in.
            let once = input-once p number number_in ds hs planned in
            let few = fewer (writes_number p number) seen.trace (trace p ds hs) front in
            omega (arith, once, few);
        attempt = λ a number.
            let once = slot-once p ds hs a number planned in
            let few = fewer (writes_in p a number) seen.trace (trace p ds hs) front in
            omega (arith, once, few);
      }

-- so do those of a floor on which a run may end
pub may_front : {V : Type 0} (faults : V → ℕ) (p : Sizes) (ds : ℕ → Draw) (hs : List (List ℕ)) (before now : ℕ) (f : Parts V) (failures : List Verdict) (o : Outcome)
    → MayEnd faults p ds hs before now f failures o → Begins f.recorder.trace (trace p ds hs)
may_front faults p ds hs before now f failures o may =
    front_is p ds hs (seen faults ds hs before now f failures f.plan.workers) (opens_last p f.run f.recorder.last) failures o (ends faults ds hs before now f failures p o may).outcome
