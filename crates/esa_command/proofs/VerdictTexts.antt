-- The lines of the attempts, one by one.
use Rattle.std.proofs.Common.{◌≡◌, ℕ, zero, suc, ◌+◌, ◌<◌, List, [], ◌∷◌, length, get_or, refl, ap, ◌∙◌, arith}
use Rattle.esa_spec.specs.declared.event.Verdict.{Verdict}
use Rattle.esa_refusal.specs.Failures.{verdict_text, verdict_texts}

pub texts_length : (attempt : ℕ) (verdicts : List Verdict) → length (verdict_texts attempt verdicts) ≡ length verdicts
texts_length attempt [] = refl
texts_length attempt (verdict ∷ verdicts) = ap suc (texts_length (attempt + 1) verdicts)

texts_at : (attempt : ℕ) (verdicts : List Verdict) (i : ℕ) (d : Verdict) → i < length verdicts → get_or (verdict_texts attempt verdicts) i [] ≡ verdict_text (attempt + i) (get_or verdicts i d)
texts_at attempt [] i d below = absurd (omega (arith, below))
texts_at attempt (verdict ∷ verdicts) zero d below = ap (λ n. verdict_text n verdict) (omega arith)
texts_at attempt (verdict ∷ verdicts) (suc i) d below = texts_at (attempt + 1) verdicts i d (omega (arith, below)) ∙ ap (λ n. verdict_text n (get_or verdicts i d)) (omega arith)

pub text_at : (verdicts : List Verdict) (i : ℕ) (d : Verdict) → i < length verdicts → get_or (verdict_texts 0 verdicts) i [] ≡ verdict_text i (get_or verdicts i d)
text_at verdicts i d below = texts_at 0 verdicts i d below ∙ ap (λ n. verdict_text n (get_or verdicts i d)) (omega arith)
