-- Marks that rise.
use Rattle.std.proofs.Common.{◌≡◌, ℕ, List, [], ◌++◌, sym, ap, ◌∙◌, subst, append_assoc, append-nil, arith}
use Rattle.esa_turnstile.specs.declared.view.Mark.{Mark}
use Rattle.esa_turnstile.specs.Marks.{IsBelow}

pub below-refl : (m : Mark) → IsBelow m m
below-refl m = record { number = omega arith; trail = ([], append-nil m.trail) }

pub below-trans : (m n o : Mark) → IsBelow m n → IsBelow n o → IsBelow m o
below-trans m n o h k = record {
  number = let a = h.number in let b = k.number in omega arith;
  trail = (h.trail.0 ++ k.trail.0, sym (append_assoc m.trail h.trail.0 k.trail.0) ∙ (ap (λ (z : List (List ℕ)). z ++ k.trail.0) h.trail.1 ∙ k.trail.1));
}

-- the same of marks that are equal to these
pub below-as : (m m' n n' : Mark) → m' ≡ m → n' ≡ n → IsBelow m n → IsBelow m' n'
below-as m m' n n' e f h = subst (λ (z : Mark). IsBelow m' z) (sym f) (subst (λ (z : Mark). IsBelow z n) (sym e) h)
