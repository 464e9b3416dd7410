-- Turns that were stored, handed in again: each list is completed to a beginning of it, which ends the attempt alike.
use Rattle.std.proofs.Common.{◌≡◌, ℕ, zero, suc, ◌+◌, ◌<◌, ◌≤◌, Bool, true, false, cond, ◌&&◌, Option, Some, None, List, [], ◌∷◌, ◌++◌, length, get_or, refl, sym, ap, ◌∙◌, subst, arith}
use Rattle.std.proofs.lemmas.List.FromFn.{get_or-map-range_with_len, length-map-range_with_len}
use Rattle.esa_params.specs.Sizes.{Sizes}
use Rattle.esa_spec.specs.Completion.{full}
use Rattle.esa_spec.specs.Draws.{Draw}
use Rattle.esa_spec.specs.Places.{places}
use Rattle.esa_spec.specs.Traces.{all_failed, attempt_trace, attempts, good_attempt, is_failed, load, scans, trace}
use Rattle.esa_spec.specs.Turns.{order}
use Rattle.esa_spec.specs.Verdicts.{failing, is_finished, is_good, settled, verdict}
use Rattle.esa_laws.proofs.AfterLaws.{completion-keeps}
use Rattle.esa_laws.proofs.FinishLaws.{prefix-finished}
use Rattle.esa_laws.proofs.LaterLaws.{places-kept}
use Rattle.esa_model.specs.Forecast.{made, made_in}
use Rattle.esa_ending.specs.Seen.{turns_in, verdict_in}
use Rattle.esa_ending.proofs.CutLaws.{none-scanned}

-- no exchange fails in a good attempt
none-fails : (p : Sizes) (d : Draw) (o : List ℕ) (f : Option ℕ) → is_good (settled p d o f) ≡ true → f ≡ None
none-fails p d o None good = refl
none-fails p d o (Some k) good = absurd (cc)

module _ (p : Sizes) (ds : ℕ → Draw) where
  -- the completions of lists that are handed in, from attempt a on
  abbrev Completes : ℕ → List (List ℕ) → List (List ℕ) → Type 0
  Completes a hs gs = (length hs ≤ length gs) × ((k : ℕ) → k < length hs → get_or gs k [] ≡ full p (ds (a + k)) (get_or hs k []))

  first-is : (a : ℕ) (h g : List ℕ) (hs gs : List (List ℕ)) → Completes a (h ∷ hs) (g ∷ gs) → g ≡ full p (ds a) h
  first-is a h g hs gs c = let here : a + 0 ≡ a = omega arith in c.1 0 (omega arith) ∙ ap (λ (n : ℕ). full p (ds n) h) here

  later-are : (a : ℕ) (h g : List ℕ) (hs gs : List (List ℕ)) → Completes a (h ∷ hs) (g ∷ gs) → Completes (a + 1) hs gs
  later-are a h g hs gs c = (
    (let few = c.0 in omega (arith, few)),
    (λ k inside. let next : a + suc k ≡ a + 1 + k = omega arith in c.1 (suc k) (omega (arith, inside)) ∙ ap (λ (n : ℕ). full p (ds n) (get_or hs k [])) next),
  )

  -- the good attempt, the accesses and the places of such a list are the same
  record Same (a m : ℕ) (hs gs : List (List ℕ)) : Type 0 where
    good : good_attempt p ds a gs ≡ Some m
    accesses : attempts p ds a gs ≡ attempts p ds a hs
    order : (i : ℕ) → a + i ≡ m → places p (ds m) (turns_in gs i) ≡ places p (ds m) (turns_in hs i)
    there : a ≤ m

  -- an attempt that was finished, completed
  module _ (a : ℕ) (h : List ℕ) (finished : is_finished p (ds a) h ≡ true) where
    abbrev f : List ℕ
    f = full p (ds a) h

    finished-now : is_finished p (ds a) f ≡ true
    finished-now = prefix-finished p (ds a) h finished

    verdict-now : is_good (verdict p (ds a) f) ≡ is_good (verdict p (ds a) h)
    verdict-now = ap is_good (sym (completion-keeps p (ds a) h finished a).verdict_same)

    accesses-now : attempt_trace p (ds a) a f ≡ attempt_trace p (ds a) a h
    accesses-now = sym (completion-keeps p (ds a) h finished a).trace_same

    failed-as : (c : Bool) (q : Bool) (g : List ℕ) → is_finished p (ds a) g ≡ true → is_good (verdict p (ds a) g) ≡ q → is_failed p (ds a) g ≡ cond q false true
    failed-as c q g done good = ap (λ y. cond y (cond (is_good (verdict p (ds a) g)) false true) false) done ∙ ap (λ y. cond y false true) good

    on : (q : Bool) (hs gs : List (List ℕ)) → is_good (verdict p (ds a) h) ≡ q → attempts p ds (a + 1) gs ≡ attempts p ds (a + 1) hs
        → attempts p ds a (f ∷ gs) ≡ attempts p ds a (h ∷ hs)
    on q hs gs good later =
        ap (λ y. y ++ cond (is_failed p (ds a) f) (attempts p ds (a + 1) gs) []) accesses-now
        ∙ ap (λ y. attempt_trace p (ds a) a h ++ cond y (attempts p ds (a + 1) gs) []) (failed-as true q f finished-now (verdict-now ∙ good) ∙ sym (failed-as true q h finished good))
        ∙ ap (λ y. attempt_trace p (ds a) a h ++ cond (is_failed p (ds a) h) y []) later

    last-on : (hs gs : List (List ℕ)) → is_good (verdict p (ds a) h) ≡ true → attempts p ds a (f ∷ gs) ≡ attempts p ds a (h ∷ hs)
    last-on hs gs good =
        ap (λ y. y ++ cond (is_failed p (ds a) f) (attempts p ds (a + 1) gs) []) accesses-now
        ∙ ap (λ y. attempt_trace p (ds a) a h ++ cond y (attempts p ds (a + 1) gs) []) (failed-as true true f finished-now (verdict-now ∙ good))
        ∙ sym (ap (λ y. attempt_trace p (ds a) a h ++ cond y (attempts p ds (a + 1) hs) []) (failed-as true true h finished good))

    good-now : (q : Bool) (later : Option ℕ) → is_good (verdict p (ds a) h) ≡ q → cond (is_finished p (ds a) f) (cond (is_good (verdict p (ds a) f)) (Some a) later) None ≡ cond q (Some a) later
    good-now q later good = ap (λ y. cond y (cond (is_good (verdict p (ds a) f)) (Some a) later) None) finished-now ∙ ap (λ y. cond y (Some a) later) (verdict-now ∙ good)

  by : (a m : ℕ) (h : List ℕ) (hs gs : List (List ℕ)) (c q : Bool) → is_finished p (ds a) h ≡ c → is_good (verdict p (ds a) h) ≡ q
      → cond c (cond q (Some a) (good_attempt p ds (a + 1) hs)) None ≡ Some m → (good_attempt p ds (a + 1) hs ≡ Some m → Same (a + 1) m hs gs) → Same a m (h ∷ hs) (full p (ds a) h ∷ gs)
  by a m h hs gs false q ec eq e later = absurd (cc)
  by a m h hs gs true true ec eq e later =
      let is : a ≡ m = cc e in
      record {
        good = good-now a h ec true (good_attempt p ds (a + 1) gs) eq ∙ e;
        accesses = last-on a h ec hs gs eq;
        order = λ i at. let start : 0 ≡ i = omega (arith, is, at) in
            subst (λ (x : ℕ). places p (ds m) (turns_in (full p (ds a) h ∷ gs) x) ≡ places p (ds m) (turns_in (h ∷ hs) x)) start
            (subst (λ (n : ℕ). places p (ds n) (full p (ds a) h) ≡ places p (ds n) h) is
            (sym (places-kept p (ds a) h ec (none-fails p (ds a) (order p.b h) (failing p (ds a) (order p.b h)) eq))));
        there = omega (arith, is);
      }
  by a m h hs gs true false ec eq e later =
      let s = later e in
      record {
        good = good-now a h ec false (good_attempt p ds (a + 1) gs) eq ∙ s.good;
        accesses = on a h ec false hs gs eq s.accesses;
        order = λ i at. at-later i at s;
        there = let below = s.there in omega (arith, below);
      }
    where
      at-later : (i : ℕ) → a + i ≡ m → Same (a + 1) m hs gs → places p (ds m) (turns_in (full p (ds a) h ∷ gs) i) ≡ places p (ds m) (turns_in (h ∷ hs) i)
      at-later zero at s = let below = s.there in absurd (omega (arith, at, below))
      at-later (suc i) at s = s.order i (omega (arith, at))

  same : (a m : ℕ) (hs gs : List (List ℕ)) → Completes a hs gs → good_attempt p ds a hs ≡ Some m → Same a m hs gs
  same a m [] gs c e = absurd (cc)
  same a m (h ∷ hs) [] c e = absurd (let few = c.0 in omega (arith, few))
  same a m (h ∷ hs) (g ∷ gs) c e =
      subst (λ (x : List ℕ). Same a m (h ∷ hs) (x ∷ gs)) (sym (first-is a h g hs gs c))
      (by a m h hs gs (is_finished p (ds a) h) (is_good (verdict p (ds a) h)) refl refl e (same (a + 1) m hs gs (later-are a h g hs gs c)))

  made-completes : (hs : List (List ℕ)) → length hs ≤ p.attempts → Completes 0 hs (made p ds hs)
  made-completes hs few = (
    (let long = length-map-range_with_len (made_in p ds hs) 0 p.attempts in omega (arith, long, few)),
    (λ k inside. get_or-map-range_with_len (made_in p ds hs) 0 p.attempts k (0 + k) [] (omega (arith, inside, few)) refl
        ∙ ap (λ (n : ℕ). full p (ds (0 + k)) (get_or hs n [])) (omega arith)),
  )

  handed : (hs : List (List ℕ)) (a : ℕ) → length hs ≤ p.attempts → good_attempt p ds 0 hs ≡ Some a → Same 0 a hs (made p ds hs)
  handed hs a few e = same 0 a hs (made p ds hs) (made-completes hs few) e

  pub handed-good : (hs : List (List ℕ)) (a : ℕ) → length hs ≤ p.attempts → good_attempt p ds 0 hs ≡ Some a → good_attempt p ds 0 (made p ds hs) ≡ Some a
  handed-good hs a few e = (handed hs a few e).good

  pub handed-trace : (hs : List (List ℕ)) (a : ℕ) → length hs ≤ p.attempts → good_attempt p ds 0 hs ≡ Some a → trace p ds (made p ds hs) ≡ trace p ds hs
  handed-trace hs a few e =
      let s = handed hs a few e in
      ap (λ y. (load p ++ y) ++ scans p (good_attempt p ds 0 (made p ds hs))) s.accesses
      ∙ ap (λ y. (load p ++ attempts p ds 0 hs) ++ scans p y) (s.good ∙ sym e)

  pub handed-places : (hs : List (List ℕ)) (a : ℕ) → length hs ≤ p.attempts → good_attempt p ds 0 hs ≡ Some a → places p (ds a) (turns_in (made p ds hs) a) ≡ places p (ds a) (turns_in hs a)
  handed-places hs a few e = (handed hs a few e).order a (omega arith)

  -- where each attempt has failed
  both : (c e : Bool) → (c && e) ≡ true → (c ≡ true) × (e ≡ true)
  both true e h = (refl, h)
  both false e h = absurd (cc)

  finished-by : (c q : Bool) → cond c (cond q false true) false ≡ true → (c ≡ true) × (q ≡ false)
  finished-by true true e = absurd (cc)
  finished-by true false e = (refl, refl)
  finished-by false q e = absurd (cc)

  -- the attempts end alike
  abbrev SameVerdicts : ℕ → List (List ℕ) → List (List ℕ) → Type 0
  SameVerdicts a hs gs = (x : ℕ) → x < length hs → verdict p (ds (a + x)) (turns_in gs x) ≡ verdict p (ds (a + x)) (turns_in hs x)

  verdicts-on : (a : ℕ) (h : List ℕ) (hs gs : List (List ℕ)) → is_finished p (ds a) h ≡ true → SameVerdicts (a + 1) hs gs → SameVerdicts a (h ∷ hs) (full p (ds a) h ∷ gs)
  verdicts-on a h hs gs finished later zero inside =
      let here : a ≡ a + zero = omega arith in
      subst (λ (n : ℕ). verdict p (ds n) (full p (ds a) h) ≡ verdict p (ds n) h) here (sym (completion-keeps p (ds a) h finished a).verdict_same)
  verdicts-on a h hs gs finished later (suc x) inside =
      let next : a + 1 + x ≡ a + suc x = omega arith in
      subst (λ (n : ℕ). verdict p (ds n) (turns_in gs x) ≡ verdict p (ds n) (turns_in hs x)) next (later x (omega (arith, inside)))

  record SameFailed (a : ℕ) (hs gs : List (List ℕ)) : Type 0 where
    failed : all_failed p ds a gs ≡ true
    accesses : attempts p ds a gs ≡ attempts p ds a hs
    verdicts : SameVerdicts a hs gs

  same-failed : (a : ℕ) (hs gs : List (List ℕ)) → Completes a hs gs → length hs ≡ length gs → all_failed p ds a hs ≡ true → SameFailed a hs gs
  same-failed a [] [] c long e = record { failed = refl; accesses = refl; verdicts = λ x inside. absurd (omega (arith, inside)) }
  same-failed a [] (g ∷ gs) c long e = absurd (omega (arith, long))
  same-failed a (h ∷ hs) [] c long e = absurd (omega (arith, long))
  same-failed a (h ∷ hs) (g ∷ gs) c long e =
      let parts = both (is_failed p (ds a) h) (all_failed p ds (a + 1) hs) e in
      let ends = finished-by (is_finished p (ds a) h) (is_good (verdict p (ds a) h)) parts.0 in
      let later = same-failed (a + 1) hs gs (later-are a h g hs gs c) (omega (arith, long)) parts.1 in
      subst (λ (x : List ℕ). SameFailed a (h ∷ hs) (x ∷ gs)) (sym (first-is a h g hs gs c)) (record {
        failed =
            ap (λ y. y && all_failed p ds (a + 1) gs) (failed-as a h ends.0 true false (full p (ds a) h) (finished-now a h ends.0) (verdict-now a h ends.0 ∙ ends.1))
            ∙ later.failed;
        accesses = on a h ends.0 false hs gs ends.1 later.accesses;
        verdicts = verdicts-on a h hs gs ends.0 later.verdicts;
      })

  handed-all : (hs : List (List ℕ)) → length hs ≡ p.attempts → all_failed p ds 0 hs ≡ true → SameFailed 0 hs (made p ds hs)
  handed-all hs all e =
      same-failed 0 hs (made p ds hs) (made-completes hs (omega (arith, all))) (let long = length-map-range_with_len (made_in p ds hs) 0 p.attempts in omega (arith, long, all)) e

  pub handed-failed : (hs : List (List ℕ)) → length hs ≡ p.attempts → all_failed p ds 0 hs ≡ true → all_failed p ds 0 (made p ds hs) ≡ true
  handed-failed hs all e = (handed-all hs all e).failed

  pub handed-trace-failed : (hs : List (List ℕ)) → length hs ≡ p.attempts → all_failed p ds 0 hs ≡ true → trace p ds (made p ds hs) ≡ trace p ds hs
  handed-trace-failed hs all e =
      let s = handed-all hs all e in
      none-scanned p ds (made p ds hs) s.failed ∙ ap (λ y. load p ++ y) s.accesses ∙ sym (none-scanned p ds hs e)

  pub handed-verdicts : (hs : List (List ℕ)) → length hs ≡ p.attempts → all_failed p ds 0 hs ≡ true → (x : ℕ) → x < p.attempts → verdict_in p ds (made p ds hs) x ≡ verdict_in p ds hs x
  handed-verdicts hs all e x inside =
      let here : 0 + x ≡ x = omega arith in
      subst (λ (n : ℕ). verdict p (ds n) (turns_in (made p ds hs) x) ≡ verdict p (ds n) (turns_in hs x)) here ((handed-all hs all e).verdicts x (omega (arith, all, inside)))
