-- Attempts that all failed, and turns that were completed.
use Rattle.std.proofs.Common.{◌≡◌, ℕ, zero, suc, ◌+◌, ◌≤◌, ◌<◌, Bool, true, false, cond, ◌&&◌, List, [], ◌∷◌, length, map, refl, sym, ◌∙◌, ap, arith, subst}
use Rattle.std.specs.List.{All}
use Rattle.std.proofs.lemmas.List.Elements.{All-head, All-tail, All-map}
use Rattle.std.proofs.lemmas.List.FromFn.{get_or-range_with_len, length-range_with_len}
use Rattle.esa_params.specs.Sizes.{Sizes, below}
use Rattle.esa_laws.proofs.FinishLaws.{completes}
use Rattle.esa_laws.proofs.OrderLaws.{full-targets}
use Rattle.esa_spec.specs.Completion.{full, all_finished, completions}
use Rattle.esa_spec.specs.Draws.{Draw}
use Rattle.esa_spec.specs.Traces.{is_failed, all_failed}
use Rattle.esa_spec.specs.Verdicts.{is_finished, is_good, verdict}
use Rattle.esa_ending.specs.Seen.{turns_in, verdict_in, SameTargets}

both : (c e : Bool) → (c && e) ≡ true → (c ≡ true) × (e ≡ true)
both true e h = (refl, h)
both false e h = absurd (cc)

bad-by : (c g : Bool) → cond c (cond g false true) false ≡ true → g ≡ false
bad-by true true e = absurd (cc)
bad-by true false e = refl
bad-by false g e = absurd (cc)

module _ (p : Sizes) (ds : ℕ → Draw) where
  failed-each : (a : ℕ) (hs : List (List ℕ)) → all_failed p ds a hs ≡ true → (x : ℕ) → x < length hs
      → is_good (verdict p (ds (a + x)) (turns_in hs x)) ≡ false
  failed-each a [] failed x x_in = absurd (omega arith)
  failed-each a (h ∷ hs) failed zero x_in =
      let parts = both (is_failed p (ds a) h) (all_failed p ds (a + 1) hs) failed in
      let here : a ≡ a + zero = omega arith in
      subst (λ y. is_good (verdict p (ds y) h) ≡ false) here (bad-by (is_finished p (ds a) h) (is_good (verdict p (ds a) h)) parts.0)
  failed-each a (h ∷ hs) failed (suc x) x_in =
      let parts = both (is_failed p (ds a) h) (all_failed p ds (a + 1) hs) failed in
      let next : a + 1 + x ≡ a + suc x = omega arith in
      subst (λ y. is_good (verdict p (ds y) (turns_in hs x)) ≡ false) next (failed-each (a + 1) hs parts.1 x (omega arith))

  pub all-bad : (hs : List (List ℕ)) → all_failed p ds 0 hs ≡ true → All (λ v. is_good v ≡ false) (map (verdict_in p ds hs) (below (length hs)))
  all-bad hs failed =
      All-map (λ v. is_good v ≡ false) (verdict_in p ds hs) (below (length hs))
      (λ k d k_in.
      let k_there : k < length hs = omega (arith, length-range_with_len 0 (length hs)) in
      subst (λ y. is_good (verdict_in p ds hs y) ≡ false) (sym (get_or-range_with_len 0 (length hs) k d k_there))
      (subst (λ y. is_good (verdict p (ds (0 + k)) (turns_in hs y)) ≡ false) (omega arith) (failed-each 0 hs failed k k_there)))

  -- completions, from attempt a on
  pub all-complete : (a : ℕ) (turns : List (List ℕ)) → 1 ≤ p.workers → All (λ h. All (λ worker. worker < p.workers) h) turns
      → all_finished p ds a (completions p ds a turns) ≡ true
  all-complete a [] some all = refl
  all-complete a (h ∷ turns) some all =
      let P = λ (xs : List ℕ). All (λ worker. worker < p.workers) xs in
      ap (λ y. y && all_finished p ds (a + 1) (completions p ds (a + 1) turns)) (completes p (ds a) h some (All-head P h turns all))
      ∙ all-complete (a + 1) turns some (All-tail P h turns all)

  pub as-many : (a : ℕ) (turns : List (List ℕ)) → length (completions p ds a turns) ≡ length turns
  as-many a [] = refl
  as-many a (h ∷ turns) = ap suc (as-many (a + 1) turns)

module _ (p : Sizes) (ds es : ℕ → Draw) (n : ℕ) (same : (x : ℕ) → x < n → SameTargets p (ds x) (es x)) where
  pub completions-same : (a : ℕ) (turns : List (List ℕ)) → a + length turns ≤ n → completions p ds a turns ≡ completions p es a turns
  completions-same a [] a_in = refl
  completions-same a (h ∷ turns) a_in =
      ap (λ y. y ∷ completions p ds (a + 1) turns) (full-targets p (ds a) (es a) (same a (omega arith)) h)
      ∙ ap (λ y. full p (es a) h ∷ y) (completions-same (a + 1) turns (omega arith))
