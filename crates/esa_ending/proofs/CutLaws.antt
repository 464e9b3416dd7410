-- The accesses of turns that were cut short.
use Rattle.std.proofs.Common.{◌≡◌, ℕ, zero, suc, ◌+◌, ◌<◌, length, map, Bool, true, false, cond, List, [], ◌∷◌, ◌++◌, take, drop, refl, sym, ◌∙◌, ap, subst, append-nil}
use Rattle.std.specs.Prelude.{Option, Some, None}
use Rattle.std.proofs.lemmas.List.{take-append-drop}
use Rattle.esa_params.specs.Sizes.{Sizes, below}
use Rattle.esa_params.specs.declared.slot.Access.{Access}
use Rattle.esa_laws.proofs.AfterLaws.{keeps, spread-begins}
use Rattle.esa_laws.proofs.LaterLaws.{attempts-stop, good-ends, good_attempt-stops, trace-stops}
use Rattle.esa_spec.specs.Draws.{Draw}
use Rattle.esa_spec.specs.Traces.{spread, rest, drain, attempt_trace, is_failed, all_failed, attempts, good_attempt, load, scan, scans, shuffle_trace, trace}
use Rattle.esa_spec.specs.Turns.{order}
use Rattle.esa_spec.specs.Verdicts.{failing, is_finished, is_good, left, verdict}
use Rattle.esa_ending.specs.Endings.{Succeeds, Overflows, IsCutAt}
use Rattle.esa_ending.specs.Seen.{Seen, IsCalm, stored, HasHistory, AreCut, verdict_in}
use Rattle.esa_spec.specs.Fronts.{Begins, EndsWith}
use Rattle.esa_ending.proofs.FrontLaws.{behind, joined-front, onward, whole}

-- an attempt that isn't finished has no accesses behind its turns
unfinished : (p : Sizes) (d : Draw) (a : ℕ) (h : List ℕ) (f : Option ℕ) → is_finished p d h ≡ false → rest p d a h f ≡ []
unfinished p d a h (Some k) e = refl
unfinished p d a h None e = ap (λ y. cond y (drain p d a (left p d (order p.b h))) []) e

attempt-by : (p : Sizes) (d : Draw) (a : ℕ) (h more : List ℕ) (c : Bool) → is_finished p d h ≡ c → Begins (attempt_trace p d a h) (attempt_trace p d a (h ++ more))
attempt-by p d a h more true e = whole (attempt_trace p d a h) (attempt_trace p d a (h ++ more)) (sym (keeps p d a h more e).trace_same)
attempt-by p d a h more false e =
    let g = h ++ more in
    let alone : attempt_trace p d a h ≡ spread p d a h =
    ap (λ y. spread p d a h ++ y) (unfinished p d a h (failing p d (order p.b h)) e) ∙ append-nil (spread p d a h) in
    subst (λ y. Begins y (attempt_trace p d a g)) (sym alone)
    (onward (spread p d a h) (spread p d a g) (attempt_trace p d a g) (spread-begins p d a h more)
    (joined-front (spread p d a g) (rest p d a g (failing p d (order p.b g)))))

pub attempt-front : (p : Sizes) (d : Draw) (a : ℕ) (h g : List ℕ) → Begins h g → Begins (attempt_trace p d a h) (attempt_trace p d a g)
attempt-front p d a h g b =
    subst (λ y. Begins (attempt_trace p d a h) (attempt_trace p d a y)) (sym b.1) (attempt-by p d a h b.0 (is_finished p d h) refl)

last-by : (xs : List Access) (c : Bool) → xs ++ cond c [] [] ≡ xs
last-by xs true = append-nil xs
last-by xs false = append-nil xs

next-by : (xs ys : List Access) (c : Bool) → Begins xs ys → Begins (cond c xs []) (cond c ys [])
next-by xs ys true b = b
next-by xs ys false b = ([], refl)

module _ (p : Sizes) (ds : ℕ → Draw) where
  pub attempts-front : (a : ℕ) (made hs : List (List ℕ)) → AreCut made hs → Begins (attempts p ds a made) (attempts p ds a hs)
  attempts-front a [] hs cut = (attempts p ds a hs, refl)
  attempts-front a (h ∷ made) [] cut = absurd cut
  attempts-front a (h ∷ []) (g ∷ hs) cut =
      let here = attempt_trace p (ds a) a g in
      subst (λ y. Begins y (attempts p ds a (g ∷ hs))) (sym (last-by (attempt_trace p (ds a) a h) (is_failed p (ds a) h)))
      (onward (attempt_trace p (ds a) a h) here (attempts p ds a (g ∷ hs)) (attempt-front p (ds a) a h g cut)
      (joined-front here (cond (is_failed p (ds a) g) (attempts p ds (a + 1) hs) [])))
  attempts-front a (h ∷ other ∷ made) (g ∷ hs) cut =
      let later = attempts p ds (a + 1) (other ∷ made) in
      let all = attempts p ds (a + 1) hs in
      subst (λ y. Begins (attempts p ds a (h ∷ other ∷ made)) (attempt_trace p (ds a) a y ++ cond (is_failed p (ds a) y) all [])) cut.0
      (behind (attempt_trace p (ds a) a h) (cond (is_failed p (ds a) h) later []) (cond (is_failed p (ds a) h) all [])
      (next-by later all (is_failed p (ds a) h) (attempts-front (a + 1) (other ∷ made) hs cut.1)))

  pub shuffle-front : (made hs : List (List ℕ)) → AreCut made hs → Begins (shuffle_trace p ds made) (shuffle_trace p ds hs)
  shuffle-front made hs cut = behind (load p) (attempts p ds 0 made) (attempts p ds 0 hs) (attempts-front 0 made hs cut)

  -- the attempts up to the one that succeeds
  pub good-of-take : (hs : List (List ℕ)) (m a : ℕ) → good_attempt p ds 0 (take m hs) ≡ Some a → good_attempt p ds 0 hs ≡ Some a
  good-of-take hs m a e =
      ap (good_attempt p ds 0) (sym (take-append-drop m hs))
      ∙ good_attempt-stops p ds 0 (take m hs) (drop m hs) (good-ends p ds 0 a (take m hs) e)
      ∙ e

  pub scanned : (hs : List (List ℕ)) (m a : ℕ) → good_attempt p ds 0 (take m hs) ≡ Some a → trace p ds hs ≡ shuffle_trace p ds (take m hs) ++ (scan p a ++ scan p a)
  scanned hs m a e =
      let same : attempts p ds 0 hs ≡ attempts p ds 0 (take m hs) =
      ap (attempts p ds 0) (sym (take-append-drop m hs)) ∙ attempts-stop p ds 0 (take m hs) (drop m hs) (good-ends p ds 0 a (take m hs) e) in
      ap (λ y. (load p ++ y) ++ scans p (good_attempt p ds 0 hs)) same
      ∙ ap (λ y. shuffle_trace p ds (take m hs) ++ scans p y) (good-of-take hs m a e)

-- lists that are whole
pub cut-nowhere : (hs : List (List ℕ)) → AreCut hs hs
cut-nowhere [] = tt
cut-nowhere (h ∷ []) = ([], sym (append-nil h))
cut-nowhere (h ∷ other ∷ hs) = (refl, cut-nowhere (other ∷ hs))

pub cut-behind : (hs : List (List ℕ)) (m : ℕ) → AreCut (take m hs) hs
cut-behind hs zero = tt
cut-behind [] (suc m) = tt
cut-behind (h ∷ []) (suc zero) = ([], sym (append-nil h))
cut-behind (h ∷ []) (suc (suc m)) = ([], sym (append-nil h))
cut-behind (h ∷ other ∷ hs) (suc zero) = ([], sym (append-nil h))
cut-behind (h ∷ other ∷ hs) (suc (suc m)) = (refl, cut-behind (other ∷ hs) (suc m))

-- attempts that all failed
all-fail : (p : Sizes) (ds : ℕ → Draw) (a : ℕ) (hs : List (List ℕ)) (o : Option ℕ) → good_attempt p ds a hs ≡ o → all_failed p ds a hs ≡ true → o ≡ None
all-fail p ds a hs (Some m) e failed = let ends = good-ends p ds a m hs e in absurd (cc)
all-fail p ds a hs None e failed = refl

pub none-scanned : (p : Sizes) (ds : ℕ → Draw) (hs : List (List ℕ)) → all_failed p ds 0 hs ≡ true → trace p ds hs ≡ shuffle_trace p ds hs
none-scanned p ds hs failed =
    ap (λ y. shuffle_trace p ds hs ++ scans p y) (all-fail p ds 0 hs (good_attempt p ds 0 hs) refl failed) ∙ append-nil (shuffle_trace p ds hs)

pub traces-suffice : (p : Sizes) (ds : ℕ → Draw) (hs : List (List ℕ)) (m a : ℕ) → good_attempt p ds 0 (take m hs) ≡ Some a → trace p ds hs ≡ trace p ds (take m hs)
traces-suffice p ds hs m a e =
    ap (trace p ds) (sym (take-append-drop m hs)) ∙ trace-stops p ds (take m hs) (drop m hs) (good-ends p ds 0 a (take m hs) e)

-- turns of which an attempt succeeds make all accesses
record Succeeded (p : Sizes) (ds : ℕ → Draw) (a m : ℕ) (made hs : List (List ℕ)) : Type 0 where
  good : good_attempt p ds a hs ≡ Some m
  accesses : attempts p ds a made ≡ attempts p ds a hs

module _ (p : Sizes) (ds : ℕ → Draw) where
  last-good : (a m : ℕ) (h more : List ℕ) (hs : List (List ℕ)) (c g : Bool) → is_finished p (ds a) h ≡ c → is_good (verdict p (ds a) h) ≡ g
      → cond c (cond g (Some a) None) None ≡ Some m → Succeeded p ds a m (h ∷ []) ((h ++ more) ∷ hs)
  last-good a m h more hs false g ec eg e = absurd (cc)
  last-good a m h more hs true false ec eg e = absurd (cc)
  last-good a m h more hs true true ec eg e =
      let k = keeps p (ds a) a h more ec in
      let all = h ++ more in
      let later = good_attempt p ds (a + 1) hs in
      let good : is_good (verdict p (ds a) all) ≡ true = ap is_good k.verdict_same ∙ eg in
      let ends : is_failed p (ds a) all ≡ false =
      ap (λ y. cond y (cond (is_good (verdict p (ds a) all)) false true) false) k.finished ∙ ap (λ y. cond y false true) good in
      record {
        good = ap (λ y. cond y (cond (is_good (verdict p (ds a) all)) (Some a) later) None) k.finished ∙ ap (λ y. cond y (Some a) later) good ∙ e;
        accesses =
            last-by (attempt_trace p (ds a) a h) (is_failed p (ds a) h)
            ∙ sym (ap (λ y. attempt_trace p (ds a) a all ++ cond y (attempts p ds (a + 1) hs) []) ends
            ∙ append-nil (attempt_trace p (ds a) a all) ∙ k.trace_same);
      }

  next-good : (a m : ℕ) (h : List ℕ) (made hs : List (List ℕ)) (c g : Bool) → is_finished p (ds a) h ≡ c → is_good (verdict p (ds a) h) ≡ g
      → cond c (cond g (Some a) (good_attempt p ds (a + 1) made)) None ≡ Some m
      → (good_attempt p ds (a + 1) made ≡ Some m → Succeeded p ds (a + 1) m made hs) → Succeeded p ds a m (h ∷ made) (h ∷ hs)
  next-good a m h made hs false g ec eg e later = absurd (cc)
  next-good a m h made hs true true ec eg e later =
      let ends : is_failed p (ds a) h ≡ false =
      ap (λ y. cond y (cond (is_good (verdict p (ds a) h)) false true) false) ec ∙ ap (λ y. cond y false true) eg in
      let here = attempt_trace p (ds a) a h in
      record {
        good = ap (λ y. cond y (cond (is_good (verdict p (ds a) h)) (Some a) (good_attempt p ds (a + 1) hs)) None) ec
            ∙ ap (λ y. cond y (Some a) (good_attempt p ds (a + 1) hs)) eg ∙ e;
        accesses = ap (λ y. here ++ cond y (attempts p ds (a + 1) made) []) ends ∙ sym (ap (λ y. here ++ cond y (attempts p ds (a + 1) hs) []) ends);
      }
  next-good a m h made hs true false ec eg e later =
      let s = later e in
      record {
        good = ap (λ y. cond y (cond (is_good (verdict p (ds a) h)) (Some a) (good_attempt p ds (a + 1) hs)) None) ec
            ∙ ap (λ y. cond y (Some a) (good_attempt p ds (a + 1) hs)) eg ∙ s.good;
        accesses = ap (λ y. attempt_trace p (ds a) a h ++ cond (is_failed p (ds a) h) y []) s.accesses;
      }

  good-cut : (a m : ℕ) (made hs : List (List ℕ)) → AreCut made hs → good_attempt p ds a made ≡ Some m → Succeeded p ds a m made hs
  good-cut a m [] hs cut e = absurd (cc)
  good-cut a m (h ∷ made) [] cut e = absurd cut
  good-cut a m (h ∷ []) (g ∷ hs) cut e =
      subst (λ y. Succeeded p ds a m (h ∷ []) (y ∷ hs)) (sym cut.1)
      (last-good a m h cut.0 hs (is_finished p (ds a) h) (is_good (verdict p (ds a) h)) refl refl e)
  good-cut a m (h ∷ other ∷ made) (g ∷ hs) cut e =
      subst (λ y. Succeeded p ds a m (h ∷ other ∷ made) (y ∷ hs)) cut.0
      (next-good a m h (other ∷ made) hs (is_finished p (ds a) h) (is_good (verdict p (ds a) h)) refl refl e
      (good-cut (a + 1) m (other ∷ made) hs cut.1))

  trace-by : (made hs : List (List ℕ)) (o : Option ℕ) → AreCut made hs → good_attempt p ds 0 made ≡ o → Begins (trace p ds made) (trace p ds hs)
  trace-by made hs None cut e =
      let alone : trace p ds made ≡ shuffle_trace p ds made =
      ap (λ y. shuffle_trace p ds made ++ scans p y) e ∙ append-nil (shuffle_trace p ds made) in
      subst (λ y. Begins y (trace p ds hs)) (sym alone)
      (onward (shuffle_trace p ds made) (shuffle_trace p ds hs) (trace p ds hs) (shuffle-front p ds made hs cut)
      (joined-front (shuffle_trace p ds hs) (scans p (good_attempt p ds 0 hs))))
  trace-by made hs (Some m) cut e =
      let s = good-cut 0 m made hs cut e in
      whole (trace p ds made) (trace p ds hs)
      (ap (λ y. (load p ++ y) ++ scans p (good_attempt p ds 0 made)) s.accesses
      ∙ ap (λ y. shuffle_trace p ds hs ++ scans p y) (e ∙ sym s.good))

  pub trace-front : (made hs : List (List ℕ)) → AreCut made hs → Begins (trace p ds made) (trace p ds hs)
  trace-front made hs cut = trace-by made hs (good_attempt p ds 0 made) cut refl

-- what is seen beside the stored turns
module _ (p : Sizes) (ds : ℕ → Draw) (hs : List (List ℕ)) (seen : Seen) where
  pub succeeded : (a : ℕ) → HasHistory p seen → IsCalm seen → a < p.attempts → stored p seen ≡ take (a + 1) hs → good_attempt p ds 0 (stored p seen) ≡ Some a
      → seen.trace ≡ shuffle_trace p ds (stored p seen) ++ (scan p a ++ scan p a) → Succeeds p ds hs seen a
  succeeded a history calm planned same good traced =
      let good' : good_attempt p ds 0 (take (a + 1) hs) ≡ Some a = ap (good_attempt p ds 0) (sym same) ∙ good in
      record {
        planned = planned;
        good = good-of-take p ds hs (a + 1) a good';
        whole = traced ∙ ap (λ y. shuffle_trace p ds y ++ (scan p a ++ scan p a)) same ∙ sym (scanned p ds hs (a + 1) a good');
        turns = same;
        history = history;
        calm = calm;
      }

  pub overflowed : HasHistory p seen → IsCalm seen → length hs ≡ p.attempts → stored p seen ≡ hs → all_failed p ds 0 (stored p seen) ≡ true
      → seen.trace ≡ shuffle_trace p ds (stored p seen) → Overflows p ds hs seen (map (verdict_in p ds hs) (below p.attempts))
  overflowed history calm planned same failed traced =
      let failed' : all_failed p ds 0 hs ≡ true = ap (all_failed p ds 0) (sym same) ∙ failed in
      record {
        planned = planned;
        failed = failed';
        verdicts = refl;
        whole = traced ∙ ap (shuffle_trace p ds) same ∙ sym (none-scanned p ds hs failed');
        turns = same;
        history = history;
        calm = calm;
      }

  pub cut-at : (access : Access) → HasHistory p seen → AreCut (stored p seen) hs → EndsWith seen.trace access
      → Begins seen.trace (trace p ds (stored p seen)) → IsCutAt p ds hs seen access
  cut-at access history cut last told =
      record {
        front = onward seen.trace (trace p ds (stored p seen)) (trace p ds hs) told (trace-front p ds (stored p seen) hs cut);
        last = last;
        turns = cut;
        of_stored = told;
        history = history;
      }

  pub cut-in-shuffle : (access : Access) → HasHistory p seen → AreCut (stored p seen) hs → EndsWith seen.trace access
      → Begins seen.trace (shuffle_trace p ds (stored p seen)) → IsCutAt p ds hs seen access
  cut-in-shuffle access history cut last front =
      let made = shuffle_trace p ds (stored p seen) in
      cut-at access history cut last
      (onward seen.trace made (trace p ds (stored p seen)) front (joined-front made (scans p (good_attempt p ds 0 (stored p seen)))))
