-- The attempts of a forecast, one after another.
use Rattle.std.proofs.Common.{◌≡◌, ℕ, suc, ◌+◌, ◌-◌, ◌*◌, ◌<◌, ◌≤◌, Bool, true, false, cond, ◌&&◌, Option, Some, None, List, [], ◌∷◌, ◌++◌, length, map, refl, sym, ap, ◌∙◌, arith, append-nil, append_assoc, add-one, subst, length-append}
use Rattle.std.specs.List.{range_with_len}
use Rattle.std.proofs.Math.Nat.{mul-le-mul_right}
use Rattle.std.proofs.lemmas.List.{map-append, length-map}
use Rattle.std.proofs.lemmas.List.FromFn.{length-range_with_len}
use Rattle.esa_params.specs.Sizes.{Sizes, below}
use Rattle.esa_params.specs.declared.slot.Access.{Access}
use Rattle.esa_laws.proofs.LengthLaws.{attempts-le}
use Rattle.esa_laws.proofs.Ranges.{below-add, map-below-suc}
use Rattle.esa_spec.specs.Draws.{Draw}
use Rattle.esa_spec.specs.Traces.{written_input, attempt_trace, is_failed, all_failed, attempts, good_attempt, load, scans, scan, trace}
use Rattle.esa_spec.specs.Verdicts.{is_finished, is_good, verdict}
use Rattle.esa_spec.specs.declared.event.Verdict.{Verdict}
use Rattle.esa_model.specs.Forecast.{made_in, made, verdicts}

both : (c e : Bool) → (c && e) ≡ true → (c ≡ true) × (e ≡ true)
both true e h = (refl, h)
both false e h = absurd (cc)

-- a failed attempt is finished and not good
failed-is : (x y : Bool) → cond x (cond y false true) false ≡ true → (x ≡ true) × (y ≡ false)
failed-is true false h = (refl, refl)
failed-is true true h = absurd (cc)
failed-is false y h = absurd (cc)

module _ (p : Sizes) (ds : ℕ → Draw) where
  -- attempts behind those that failed
  pub attempts-behind : (a : ℕ) (hs more : List (List ℕ)) → all_failed p ds a hs ≡ true
      → attempts p ds a (hs ++ more) ≡ attempts p ds a hs ++ attempts p ds (a + length hs) more
  attempts-behind a [] more all = let here : a ≡ a + 0 = omega arith in ap (λ (n : ℕ). attempts p ds n more) here
  attempts-behind a (h ∷ hs) more all =
      let each = both (is_failed p (ds a) h) (all_failed p ds (a + 1) hs) all in
      let next : a + 1 + length hs ≡ a + length (h ∷ hs) = omega arith in
      let t = attempt_trace p (ds a) a h in
      ap (λ (c : Bool). t ++ cond c (attempts p ds (a + 1) (hs ++ more)) []) each.0
      ∙ ap (λ (l : List Access). t ++ l) (attempts-behind (a + 1) hs more each.1)
      ∙ sym (append_assoc t (attempts p ds (a + 1) hs) (attempts p ds (a + 1 + length hs) more))
      ∙ ap (λ (c : Bool). (t ++ cond c (attempts p ds (a + 1) hs) []) ++ attempts p ds (a + 1 + length hs) more) (sym each.0)
      ∙ ap (λ (n : ℕ). attempts p ds a (h ∷ hs) ++ attempts p ds n more) next

  pub good-behind : (a : ℕ) (hs more : List (List ℕ)) → all_failed p ds a hs ≡ true
      → good_attempt p ds a (hs ++ more) ≡ good_attempt p ds (a + length hs) more
  good-behind a [] more all = let here : a ≡ a + 0 = omega arith in ap (λ (n : ℕ). good_attempt p ds n more) here
  good-behind a (h ∷ hs) more all =
      let each = both (is_failed p (ds a) h) (all_failed p ds (a + 1) hs) all in
      let is = failed-is (is_finished p (ds a) h) (is_good (verdict p (ds a) h)) each.0 in
      let next : a + 1 + length hs ≡ a + length (h ∷ hs) = omega arith in
      let later = good_attempt p ds (a + 1) (hs ++ more) in
      ap (λ (c : Bool). cond c (cond (is_good (verdict p (ds a) h)) (Some a) later) None) is.0
      ∙ ap (λ (c : Bool). cond c (Some a) later) is.1
      ∙ good-behind (a + 1) hs more each.1
      ∙ ap (λ (n : ℕ). good_attempt p ds n more) next

  pub verdicts-behind : (a : ℕ) (hs more : List (List ℕ)) → all_failed p ds a hs ≡ true
      → verdicts p ds a (hs ++ more) ≡ verdicts p ds a hs ++ verdicts p ds (a + length hs) more
  verdicts-behind a [] more all = let here : a ≡ a + 0 = omega arith in ap (λ (n : ℕ). verdicts p ds n more) here
  verdicts-behind a (h ∷ hs) more all =
      let each = both (is_failed p (ds a) h) (all_failed p ds (a + 1) hs) all in
      let is = failed-is (is_finished p (ds a) h) (is_good (verdict p (ds a) h)) each.0 in
      let next : a + 1 + length hs ≡ a + length (h ∷ hs) = omega arith in
      let v = verdict p (ds a) h in
      ap (λ (c : Bool). v ∷ cond c [] (verdicts p ds (a + 1) (hs ++ more))) is.1
      ∙ ap (λ (l : List Verdict). v ∷ l) (verdicts-behind (a + 1) hs more each.1)
      ∙ ap (λ (c : Bool). (v ∷ cond c [] (verdicts p ds (a + 1) hs)) ++ verdicts p ds (a + 1 + length hs) more) (sym is.1)
      ∙ ap (λ (n : ℕ). verdicts p ds a (h ∷ hs) ++ verdicts p ds n more) next

  pub failed-behind : (a : ℕ) (hs : List (List ℕ)) (h : List ℕ) → all_failed p ds a hs ≡ true → is_failed p (ds (a + length hs)) h ≡ true
      → all_failed p ds a (hs ++ h ∷ []) ≡ true
  failed-behind a [] h all last =
      let here : a + 0 ≡ a = omega arith in
      ap (λ (c : Bool). c && true) (ap (λ (n : ℕ). is_failed p (ds n) h) (sym here) ∙ last)
  failed-behind a (g ∷ hs) h all last =
      let each = both (is_failed p (ds a) g) (all_failed p ds (a + 1) hs) all in
      let next : a + length (g ∷ hs) ≡ a + 1 + length hs = omega arith in
      ap (λ (c : Bool). c && all_failed p ds (a + 1) (hs ++ h ∷ [])) each.0
      ∙ failed-behind (a + 1) hs h each.1 (ap (λ (n : ℕ). is_failed p (ds n) h) (sym next) ∙ last)

  -- one more list, and whether it is the last
  module _ (turns : List (List ℕ)) (a : ℕ) where
    abbrev pub before : ℕ → List (List ℕ)
    before n = map (made_in p ds turns) (below n)

    abbrev pub here : List ℕ
    here = made_in p ds turns a

    count : length (before a) ≡ a
    count = length-map (below a) (made_in p ds turns) ∙ length-range_with_len 0 a

    at : 0 + length (before a) ≡ a
    at = omega (arith, count)

    more : before (a + 1) ≡ before a ++ here ∷ []
    more = ap before (add-one a) ∙ map-below-suc (made_in p ds turns) a

    module _ (all : all_failed p ds 0 (before a) ≡ true) (finished : is_finished p (ds a) here ≡ true) where
      module _ (bad : is_good (verdict p (ds a) here) ≡ false) where
        fails : is_failed p (ds a) here ≡ true
        fails = ap (λ (c : Bool). cond c (cond (is_good (verdict p (ds a) here)) false true) false) finished ∙ ap (λ (c : Bool). cond c false true) bad

        pub failed-more : all_failed p ds 0 (before (a + 1)) ≡ true
        failed-more = ap (all_failed p ds 0) more ∙ failed-behind 0 (before a) here all (ap (λ (n : ℕ). is_failed p (ds n) here) at ∙ fails)

        pub attempts-more : attempts p ds 0 (before (a + 1)) ≡ attempts p ds 0 (before a) ++ attempt_trace p (ds a) a here
        attempts-more =
            ap (attempts p ds 0) more ∙ attempts-behind 0 (before a) (here ∷ []) all
            ∙ ap (λ (n : ℕ). attempts p ds 0 (before a) ++ attempts p ds n (here ∷ [])) at
            ∙ ap (λ (c : Bool). attempts p ds 0 (before a) ++ (attempt_trace p (ds a) a here ++ cond c [] [])) fails
            ∙ ap (λ (l : List Access). attempts p ds 0 (before a) ++ l) (append-nil (attempt_trace p (ds a) a here))

        pub verdicts-more : verdicts p ds 0 (before (a + 1)) ≡ verdicts p ds 0 (before a) ++ verdict p (ds a) here ∷ []
        verdicts-more =
            ap (verdicts p ds 0) more ∙ verdicts-behind 0 (before a) (here ∷ []) all
            ∙ ap (λ (n : ℕ). verdicts p ds 0 (before a) ++ verdicts p ds n (here ∷ [])) at
            ∙ ap (λ (c : Bool). verdicts p ds 0 (before a) ++ verdict p (ds a) here ∷ cond c [] []) bad

      module _ (good : is_good (verdict p (ds a) here) ≡ true) (inside : a < p.attempts) where
        later : List (List ℕ)
        later = map (made_in p ds turns) (range_with_len (a + 1) (p.attempts - suc a))

        all-lists : made p ds turns ≡ before a ++ here ∷ map (made_in p ds turns) (range_with_len (a + 1) (p.attempts - suc a))
        all-lists =
            let rest : p.attempts ≡ a + suc (p.attempts - suc a) = omega arith in
            ap (λ (n : ℕ). map (made_in p ds turns) (below n)) rest
            ∙ ap (map (made_in p ds turns)) (below-add a (suc (p.attempts - suc a)))
            ∙ map-append (made_in p ds turns) (below a) (range_with_len a (suc (p.attempts - suc a)))

        not-failed : is_failed p (ds a) here ≡ false
        not-failed = ap (λ (c : Bool). cond c (cond (is_good (verdict p (ds a) here)) false true) false) finished ∙ ap (λ (c : Bool). cond c false true) good

        pub verdicts-last : verdicts p ds 0 (made p ds turns) ≡ verdicts p ds 0 (before a) ++ verdict p (ds a) here ∷ []
        verdicts-last =
            let rest = map (made_in p ds turns) (range_with_len (a + 1) (p.attempts - suc a)) in
            ap (verdicts p ds 0) all-lists ∙ verdicts-behind 0 (before a) (here ∷ rest) all
            ∙ ap (λ (n : ℕ). verdicts p ds 0 (before a) ++ verdicts p ds n (here ∷ rest)) at
            ∙ ap (λ (c : Bool). verdicts p ds 0 (before a) ++ verdict p (ds a) here ∷ cond c [] (verdicts p ds (a + 1) rest)) good

        attempts-last : attempts p ds 0 (made p ds turns) ≡ attempts p ds 0 (before a) ++ attempt_trace p (ds a) a here
        attempts-last =
            let rest = map (made_in p ds turns) (range_with_len (a + 1) (p.attempts - suc a)) in
            ap (attempts p ds 0) all-lists ∙ attempts-behind 0 (before a) (here ∷ rest) all
            ∙ ap (λ (n : ℕ). attempts p ds 0 (before a) ++ attempts p ds n (here ∷ rest)) at
            ∙ ap (λ (c : Bool). attempts p ds 0 (before a) ++ (attempt_trace p (ds a) a here ++ cond c (attempts p ds (a + 1) rest) [])) not-failed
            ∙ ap (λ (l : List Access). attempts p ds 0 (before a) ++ l) (append-nil (attempt_trace p (ds a) a here))

        good-last : good_attempt p ds 0 (made p ds turns) ≡ Some a
        good-last =
            let rest = map (made_in p ds turns) (range_with_len (a + 1) (p.attempts - suc a)) in
            ap (good_attempt p ds 0) all-lists ∙ good-behind 0 (before a) (here ∷ rest) all
            ∙ ap (λ (n : ℕ). good_attempt p ds n (here ∷ rest)) at
            ∙ ap (λ (c : Bool). cond c (cond (is_good (verdict p (ds a) here)) (Some a) (good_attempt p ds (a + 1) rest)) None) finished
            ∙ ap (λ (c : Bool). cond c (Some a) (good_attempt p ds (a + 1) rest)) good

        pub trace-last : ((load p ++ (attempts p ds 0 (before a) ++ attempt_trace p (ds a) a here)) ++ scan p a) ++ scan p a ≡ trace p ds (made p ds turns)
        trace-last =
            append_assoc (load p ++ (attempts p ds 0 (before a) ++ attempt_trace p (ds a) a here)) (scan p a) (scan p a)
            ∙ ap (λ (l : List Access). (load p ++ l) ++ (scan p a ++ scan p a)) (sym attempts-last)
            ∙ ap (λ (o : Option ℕ). (load p ++ attempts p ds 0 (made p ds turns)) ++ scans p o) (sym good-last)

  -- where no attempt succeeds
  pub trace-failed : (hs : List (List ℕ)) → all_failed p ds 0 hs ≡ true → load p ++ attempts p ds 0 hs ≡ trace p ds hs
  trace-failed hs all =
      let none : good_attempt p ds 0 hs ≡ None = ap (good_attempt p ds 0) (sym (append-nil hs)) ∙ good-behind 0 hs [] all in
      sym (ap (λ (o : Option ℕ). (load p ++ attempts p ds 0 hs) ++ scans p o) none ∙ append-nil (load p ++ attempts p ds 0 hs))

-- room for two scans is left behind an attempt
pub room-left : (a n x b before after : ℕ) → a < n → before ≤ b + a * x → after ≤ before + x → after + b + b ≤ 3 * b + n * x
room-left a n x b before after inside few more =
    let all = mul-le-mul_right {m = suc a} {n = n} x inside in
    let next : suc a * x ≡ a * x + x = omega arith in
    omega (arith, all, next, few, more)

-- how many accesses come before an attempt
pub accesses-le : (p : Sizes) (ds : ℕ → Draw) (turns : List (List ℕ)) (a : ℕ)
    → length (load p ++ attempts p ds 0 (map (made_in p ds turns) (below a))) ≤ p.b + a * (2 * p.b * p.b + 4 * p.b)
accesses-le p ds turns a =
    let hs = map (made_in p ds turns) (below a) in
    let count : length hs ≡ a = length-map (below a) (made_in p ds turns) ∙ length-range_with_len 0 a in
    let few : length (attempts p ds 0 hs) ≤ a * (2 * p.b * p.b + 4 * p.b) =
    subst (λ (n : ℕ). length (attempts p ds 0 hs) ≤ n * (2 * p.b * p.b + 4 * p.b)) count (attempts-le p ds 0 hs) in
    omega (arith, length-append (load p) (attempts p ds 0 hs), length-map (below p.b) (written_input p), length-range_with_len 0 p.b, few)
