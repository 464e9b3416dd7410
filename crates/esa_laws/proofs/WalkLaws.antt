-- The compression goes on step by step, and the attempts one by one.
use Rattle.std.proofs.Common.{◌≡◌, ℕ, ◌+◌, Bool, true, false, cond, ◌&&◌, ◌==◌, List, [], ◌∷◌, ◌++◌, length, map, refl, sym, ◌∙◌, ap, arith, append-nil, append_assoc}
use Rattle.std.specs.List.{count_by}
use Rattle.std.specs.Prelude.{Option, Some, None, nat_lt}
use Rattle.std.proofs.lemmas.Bool.Decides.{nat_tests}
use Rattle.std.proofs.lemmas.List.{map-append}
use Rattle.std.proofs.lemmas.List.Sums.{sum_by-cons}
use Rattle.esa_laws.proofs.Tests.{bit}
use Rattle.esa_params.specs.Sizes.{Sizes}
use Rattle.esa_params.specs.declared.slot.Access.{Access}
use Rattle.esa_spec.specs.Draws.{Draw}
use Rattle.esa_spec.specs.Traces.{step_accesses, walk, attempt_trace, is_failed, all_failed, attempts, good_attempt}
use Rattle.esa_spec.specs.Verdicts.{Step, step_verdict, is_good, first_bad, is_below, targets, reached, is_finished, verdict}
use Rattle.esa_spec.specs.declared.event.Verdict.{Verdict}

-- the first verdict that isn't good, of lists joined
bad-stays : (v : Verdict) (vs ws : List Verdict) (c : Bool) → is_good v ≡ c
    → first_bad (vs ++ ws) ≡ cond (is_good (first_bad vs)) (first_bad ws) (first_bad vs)
    → cond c (first_bad (vs ++ ws)) v ≡ cond (is_good (cond c (first_bad vs) v)) (first_bad ws) (cond c (first_bad vs) v)
bad-stays v vs ws true e rest = rest
bad-stays v vs ws false e rest = sym (ap (λ y. cond y (first_bad ws) v) e)

pub first_bad-append : (vs ws : List Verdict) → first_bad (vs ++ ws) ≡ cond (is_good (first_bad vs)) (first_bad ws) (first_bad vs)
first_bad-append [] ws = refl
first_bad-append (v ∷ vs) ws = bad-stays v vs ws (is_good v) refl (first_bad-append vs ws)

module _ (p : Sizes) (d : Draw) where
  -- the verdict of steps
  abbrev pub steps_verdict : List Step → Verdict
  steps_verdict xs = first_bad (map (step_verdict p d) xs)

  pub steps_verdict-append : (xs ys : List Step) → steps_verdict (xs ++ ys) ≡ cond (is_good (steps_verdict xs)) (steps_verdict ys) (steps_verdict xs)
  steps_verdict-append xs ys = ap first_bad (map-append (step_verdict p d) xs ys) ∙ first_bad-append (map (step_verdict p d) xs) (map (step_verdict p d) ys)

  walk-by : (a : ℕ) (x : Step) (xs ys : List Step) (c : Bool) → is_good (step_verdict p d x) ≡ c
      → walk p d a (xs ++ ys) ≡ walk p d a xs ++ cond (is_good (steps_verdict xs)) (walk p d a ys) []
      → step_accesses p d a x ++ cond c (walk p d a (xs ++ ys)) []
      ≡ (step_accesses p d a x ++ cond c (walk p d a xs) []) ++ cond (is_good (cond c (steps_verdict xs) (step_verdict p d x))) (walk p d a ys) []
  walk-by a x xs ys true e rest = ap (λ y. step_accesses p d a x ++ y) rest ∙ sym (append_assoc (step_accesses p d a x) (walk p d a xs) (cond (is_good (steps_verdict xs)) (walk p d a ys) []))
  walk-by a x xs ys false e rest =
      sym (append-nil (step_accesses p d a x ++ []))
      ∙ sym (ap (λ y. (step_accesses p d a x ++ []) ++ cond y (walk p d a ys) []) e)

  pub walk-append : (a : ℕ) (xs ys : List Step) → walk p d a (xs ++ ys) ≡ walk p d a xs ++ cond (is_good (steps_verdict xs)) (walk p d a ys) []
  walk-append a [] ys = refl
  walk-append a (x ∷ xs) ys = walk-by a x xs ys (is_good (step_verdict p d x)) refl (walk-append a xs ys)

  no-more : (c : Bool) → cond {A = List Access} c [] [] ≡ []
  no-more true = refl
  no-more false = refl

  -- the accesses of one step alone
  pub walk-one : (a : ℕ) (x : Step) → walk p d a (x ∷ []) ≡ step_accesses p d a x
  walk-one a x = ap (λ (l : List Access). step_accesses p d a x ++ l) (no-more (is_good (step_verdict p d x))) ∙ append-nil (step_accesses p d a x)

-- one target more
one-test : (i t : ℕ) → bit (nat_lt t (i + 1)) ≡ bit (nat_lt t i) + bit (t == i)
one-test i t = grind (arith, nat_tests)

below-more : (i : ℕ) (ts : List ℕ) → count_by (is_below (i + 1)) ts ≡ count_by (is_below i) ts + count_by (λ t. t == i) ts
below-more i [] = refl
below-more i (t ∷ ts) =
    omega (
      arith,
      sum_by-cons (λ y. bit (is_below (i + 1) y)) t ts,
      sum_by-cons (λ y. bit (is_below i y)) t ts,
      sum_by-cons (λ y. bit (y == i)) t ts,
      one-test i t,
      below-more i ts,
    )

pub reached-more : (p : Sizes) (d : Draw) (i : ℕ) → reached p d (i + 1) ≡ reached p d i + count_by (λ t. t == i) (targets p d)
reached-more p d i = below-more i (targets p d)

none-below : (ts : List ℕ) → count_by (is_below 0) ts ≡ 0
none-below [] = refl
none-below (t ∷ ts) =
    let no : nat_lt t 0 ≡ false = grind (arith, nat_tests) in
    omega (arith, sum_by-cons (λ y. bit (is_below 0 y)) t ts, ap bit no, none-below ts)

pub reached-zero : (p : Sizes) (d : Draw) → reached p d 0 ≡ 0
reached-zero p d = none-below (targets p d)

only : (c : Bool) → (c && true) ≡ c
only true = refl
only false = refl

abbrev no_accesses : Bool → List Access
no_accesses c = cond c [] []

empty : (c : Bool) → no_accesses c ≡ []
empty true = refl
empty false = refl

both : (c e : Bool) → (c && e) ≡ true → (c ≡ true) × (e ≡ true)
both true e h = (refl, h)
both false e h = absurd (cc)

clash : (x y : Bool) → x ≡ true → y ≡ true → cond x (cond y false true) false ≡ true → ⊥
clash true true ex ey e = cc
clash true false ex ey e = cc
clash false y ex ey e = cc

unfinished : (x y : Bool) → x ≡ false → cond x (cond y false true) false ≡ true → ⊥
unfinished true y ex e = cc
unfinished false y ex e = cc

-- one attempt more
module _ (p : Sizes) (ds : ℕ → Draw) where
  all-by : (c e f : Bool) → (c && (e && f)) ≡ ((c && e) && f)
  all-by true e f = refl
  all-by false e f = refl

  pub all_failed-push : (a : ℕ) (hs : List (List ℕ)) (h : List ℕ)
      → all_failed p ds a (hs ++ h ∷ []) ≡ (all_failed p ds a hs && is_failed p (ds (a + length hs)) h)
  all_failed-push a [] h = let here : a + 0 ≡ a = omega arith in only (is_failed p (ds a) h) ∙ sym (ap (λ y. is_failed p (ds y) h) here)
  all_failed-push a (g ∷ hs) h =
      let next : a + 1 + length hs ≡ a + length (g ∷ hs) = omega arith in
      ap (λ y. is_failed p (ds a) g && y) (all_failed-push (a + 1) hs h)
      ∙ all-by (is_failed p (ds a) g) (all_failed p ds (a + 1) hs) (is_failed p (ds (a + 1 + length hs)) h)
      ∙ ap (λ y. (is_failed p (ds a) g && all_failed p ds (a + 1) hs) && is_failed p (ds y) h) next

  attempts-by : (c e : Bool) (xs ys zs : List Access) → xs ++ cond c (ys ++ cond e zs []) [] ≡ (xs ++ cond c ys []) ++ cond (c && e) zs []
  attempts-by true e xs ys zs = sym (append_assoc xs ys (cond e zs []))
  attempts-by false e xs ys zs = sym (append-nil (xs ++ []))

  pub attempts-push : (a : ℕ) (hs : List (List ℕ)) (h : List ℕ)
      → attempts p ds a (hs ++ h ∷ [])
      ≡ attempts p ds a hs ++ cond (all_failed p ds a hs) (attempt_trace p (ds (a + length hs)) (a + length hs) h) []
  attempts-push a [] h =
      let here : a + 0 ≡ a = omega arith in
      ap (λ y. attempt_trace p (ds a) a h ++ y) (empty (is_failed p (ds a) h)) ∙ append-nil (attempt_trace p (ds a) a h)
      ∙ sym (ap (λ y. attempt_trace p (ds y) y h) here)
  attempts-push a (g ∷ hs) h =
      let next : a + 1 + length hs ≡ a + length (g ∷ hs) = omega arith in
      ap (λ y. attempt_trace p (ds a) a g ++ cond (is_failed p (ds a) g) y []) (attempts-push (a + 1) hs h)
      ∙ attempts-by (is_failed p (ds a) g) (all_failed p ds (a + 1) hs) (attempt_trace p (ds a) a g) (attempts p ds (a + 1) hs)
      (attempt_trace p (ds (a + 1 + length hs)) (a + 1 + length hs) h)
      ∙ ap (λ y. attempts p ds a (g ∷ hs) ++ cond (all_failed p ds a (g ∷ hs)) (attempt_trace p (ds y) y h) []) next

  -- which attempt succeeds
  abbrev pub succeeds : ℕ → List ℕ → Option ℕ
  succeeds a h = cond (is_finished p (ds a) h) (cond (is_good (verdict p (ds a) h)) (Some a) None) None

  good-by : (a : ℕ) (g : List ℕ) (c e : Bool) (later : Option ℕ) → is_finished p (ds a) g ≡ c → is_good (verdict p (ds a) g) ≡ e
      → is_failed p (ds a) g ≡ true → cond c (cond e (Some a) later) None ≡ later
  good-by a g true true later fin good failed = absurd (clash (is_finished p (ds a) g) (is_good (verdict p (ds a) g)) fin good failed)
  good-by a g true false later fin good failed = refl
  good-by a g false e later fin good failed = absurd (unfinished (is_finished p (ds a) g) (is_good (verdict p (ds a) g)) fin failed)

  pub good_attempt-push : (a : ℕ) (hs : List (List ℕ)) (h : List ℕ) → all_failed p ds a hs ≡ true
      → good_attempt p ds a (hs ++ h ∷ []) ≡ succeeds (a + length hs) h
  good_attempt-push a [] h all = let here : a + 0 ≡ a = omega arith in sym (ap (λ y. succeeds y h) here)
  good_attempt-push a (g ∷ hs) h all =
      let next : a + 1 + length hs ≡ a + length (g ∷ hs) = omega arith in
      let first : (is_failed p (ds a) g ≡ true) × (all_failed p ds (a + 1) hs ≡ true) = both (is_failed p (ds a) g) (all_failed p ds (a + 1) hs) all in
      good-by a g (is_finished p (ds a) g) (is_good (verdict p (ds a) g)) (good_attempt p ds (a + 1) (hs ++ h ∷ [])) refl refl first.0
      ∙ good_attempt-push (a + 1) hs h first.1 ∙ ap (λ y. succeeds y h) next
