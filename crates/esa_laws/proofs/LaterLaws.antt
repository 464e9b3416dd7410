-- Lists of turns behind the attempt that ends the run, and lists in place of their completions.
use Rattle.std.proofs.Common.{◌≡◌, ℕ, ◌+◌, Bool, true, false, cond, ◌&&◌, List, [], ◌∷◌, ◌++◌, length, drop, refl, sym, ◌∙◌, ap}
use Rattle.std.specs.Prelude.{Option, Some, None}
use Rattle.esa_params.specs.Sizes.{Sizes}
use Rattle.esa_params.specs.declared.slot.Access.{Access}
use Rattle.esa_laws.proofs.AfterLaws.{completion-keeps}
use Rattle.esa_laws.proofs.FinishLaws.{prefix, prefix-finished}
use Rattle.esa_laws.proofs.FailLaws.{failing-on}
use Rattle.std.proofs.lemmas.List.{take-append-drop}
use Rattle.esa_spec.specs.Completion.{full, all_finished, completions}
use Rattle.esa_spec.specs.Draws.{Draw}
use Rattle.esa_spec.specs.Places.{places}
use Rattle.esa_spec.specs.Turns.{order}
use Rattle.esa_spec.specs.Traces.{attempt_trace, is_failed, all_failed, attempts, good_attempt, load, scans, trace}
use Rattle.esa_spec.specs.Verdicts.{failing, is_finished, is_good, verdict}

module _ (p : Sizes) (ds : ℕ → Draw) where
  -- an attempt that isn't failed is the last one
  stops-by : (xs ys : List Access) (c : Bool) (rest : Bool) → (c && rest) ≡ false → (rest ≡ false → xs ≡ ys) → cond c xs [] ≡ cond c ys []
  stops-by xs ys true rest e same = same e
  stops-by xs ys false rest e same = refl

  pub attempts-stop : (a : ℕ) (hs more : List (List ℕ)) → all_failed p ds a hs ≡ false → attempts p ds a (hs ++ more) ≡ attempts p ds a hs
  attempts-stop a [] more e = absurd (cc)
  attempts-stop a (h ∷ hs) more e =
      ap (λ y. attempt_trace p (ds a) a h ++ y)
      (stops-by (attempts p ds (a + 1) (hs ++ more)) (attempts p ds (a + 1) hs) (is_failed p (ds a) h) (all_failed p ds (a + 1) hs) e (attempts-stop (a + 1) hs more))

  ends-by : (a : ℕ) (x y : Option ℕ) (c g : Bool) (rest : Bool) → (cond c (cond g false true) false && rest) ≡ false → (rest ≡ false → x ≡ y)
      → cond c (cond g (Some a) x) None ≡ cond c (cond g (Some a) y) None
  ends-by a x y true true rest e same = refl
  ends-by a x y true false rest e same = same e
  ends-by a x y false g rest e same = refl

  pub good_attempt-stops : (a : ℕ) (hs more : List (List ℕ)) → all_failed p ds a hs ≡ false → good_attempt p ds a (hs ++ more) ≡ good_attempt p ds a hs
  good_attempt-stops a [] more e = absurd (cc)
  good_attempt-stops a (h ∷ hs) more e =
      ends-by a (good_attempt p ds (a + 1) (hs ++ more)) (good_attempt p ds (a + 1) hs) (is_finished p (ds a) h) (is_good (verdict p (ds a) h))
      (all_failed p ds (a + 1) hs) e (good_attempt-stops (a + 1) hs more)

  pub trace-stops : (hs more : List (List ℕ)) → all_failed p ds 0 hs ≡ false → trace p ds (hs ++ more) ≡ trace p ds hs
  trace-stops hs more e =
      ap (λ y. (load p ++ y) ++ scans p (good_attempt p ds 0 (hs ++ more))) (attempts-stop 0 hs more e)
      ∙ ap (λ y. (load p ++ attempts p ds 0 hs) ++ scans p y) (good_attempt-stops 0 hs more e)

  -- an attempt that succeeds isn't failed
  good-by : (a m : ℕ) (later : Option ℕ) (c g rest : Bool) → cond c (cond g (Some a) later) None ≡ Some m → (later ≡ Some m → rest ≡ false)
      → (cond c (cond g false true) false && rest) ≡ false
  good-by a m later true true rest e before = refl
  good-by a m later true false rest e before = before e
  good-by a m later false g rest e before = refl

  pub good-ends : (a m : ℕ) (hs : List (List ℕ)) → good_attempt p ds a hs ≡ Some m → all_failed p ds a hs ≡ false
  good-ends a m [] e = absurd (cc)
  good-ends a m (h ∷ hs) e =
      good-by a m (good_attempt p ds (a + 1) hs) (is_finished p (ds a) h) (is_good (verdict p (ds a) h)) (all_failed p ds (a + 1) hs) e (good-ends (a + 1) m hs)

  -- completions of lists that are finished
  first-of : (c e : Bool) → (c && e) ≡ true → (c ≡ true) × (e ≡ true)
  first-of true e h = (refl, h)
  first-of false e h = absurd (cc)

  failed-full : (a : ℕ) (h : List ℕ) → is_finished p (ds a) h ≡ true → is_failed p (ds a) (full p (ds a) h) ≡ is_failed p (ds a) h
  failed-full a h finished =
      ap (λ y. cond y (cond (is_good (verdict p (ds a) (full p (ds a) h))) false true) false) (prefix-finished p (ds a) h finished ∙ sym finished)
      ∙ ap (λ y. cond (is_finished p (ds a) h) (cond (is_good y) false true) false) (sym (completion-keeps p (ds a) h finished a).verdict_same)

  attempts-completed : (a : ℕ) (hs : List (List ℕ)) → all_finished p ds a hs ≡ true → attempts p ds a (completions p ds a hs) ≡ attempts p ds a hs
  attempts-completed a [] e = refl
  attempts-completed a (h ∷ hs) e =
      let parts = first-of (is_finished p (ds a) h) (all_finished p ds (a + 1) hs) e in
      let g = full p (ds a) h in
      ap (λ y. y ++ cond (is_failed p (ds a) g) (attempts p ds (a + 1) (completions p ds (a + 1) hs)) []) (sym (completion-keeps p (ds a) h parts.0 a).trace_same)
      ∙ ap (λ y. attempt_trace p (ds a) a h ++ cond y (attempts p ds (a + 1) (completions p ds (a + 1) hs)) []) (failed-full a h parts.0)
      ∙ ap (λ y. attempt_trace p (ds a) a h ++ cond (is_failed p (ds a) h) y []) (attempts-completed (a + 1) hs parts.1)

  good-completed : (a : ℕ) (hs : List (List ℕ)) → all_finished p ds a hs ≡ true → good_attempt p ds a (completions p ds a hs) ≡ good_attempt p ds a hs
  good-completed a [] e = refl
  good-completed a (h ∷ hs) e =
      let parts = first-of (is_finished p (ds a) h) (all_finished p ds (a + 1) hs) e in
      let g = full p (ds a) h in
      let later = good_attempt p ds (a + 1) (completions p ds (a + 1) hs) in
      ap (λ y. cond y (cond (is_good (verdict p (ds a) g)) (Some a) later) None) (prefix-finished p (ds a) h parts.0 ∙ sym parts.0)
      ∙ ap (λ y. cond (is_finished p (ds a) h) (cond (is_good y) (Some a) later) None) (sym (completion-keeps p (ds a) h parts.0 a).verdict_same)
      ∙ ap (λ y. cond (is_finished p (ds a) h) (cond (is_good (verdict p (ds a) h)) (Some a) y) None) (good-completed (a + 1) hs parts.1)

  pub trace-completed : (hs : List (List ℕ)) → all_finished p ds 0 hs ≡ true → trace p ds (completions p ds 0 hs) ≡ trace p ds hs
  trace-completed hs e =
      ap (λ y. (load p ++ y) ++ scans p (good_attempt p ds 0 (completions p ds 0 hs))) (attempts-completed 0 hs e)
      ∙ ap (λ y. (load p ++ attempts p ds 0 hs) ++ scans p y) (good-completed 0 hs e)

-- the places of a completion, where no exchange of the history failed
pub places-kept : (p : Sizes) (d : Draw) (h : List ℕ) → is_finished p d h ≡ true → failing p d (order p.b h) ≡ None → places p d h ≡ places p d (full p d h)
places-kept p d h finished ok = (completion-keeps p d h finished 0).places_same (by (failing p d (order p.b (full p d h))) refl)
  where
    by : (f : Option ℕ) → failing p d (order p.b (full p d h)) ≡ f → failing p d (order p.b (full p d h)) ≡ None
    by None e = e
    by (Some k) e =
        let m = length (full p d h) in
        let whole : full p d h ++ drop m h ≡ h = ap (λ y. y ++ drop m h) (prefix p d h finished) ∙ take-append-drop m h in
        let clash = sym ok ∙ ap (λ y. failing p d (order p.b y)) (sym whole) ∙ failing-on p d (full p d h) (drop m h) k e in
        absurd (cc)
