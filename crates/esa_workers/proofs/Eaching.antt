-- Loops over the elements of a list, one after another.
use Rattle.std.proofs.Common.{◌≡◌, ℕ, ◌+◌, ◌<◌, ◌≤◌, List, length, get_or, set, sym, ap, ◌∙◌, subst, inl, inr, arith}
use Rattle.std.proofs.lemmas.Bool.{cases_eq}
use Rattle.std.proofs.lemmas.List.{get_or-set_other, get_or-set_same, get_or_default, set-get_or}

module _ {X : Type 0} (R : X → X → Type 0) (old now : List X) (n : ℕ) (new : X) (inside : n < length now) (each : length now ≡ length old)
    (rest : (k : ℕ) (d : X) → n ≤ k → get_or now k d ≡ get_or old k d) where
  -- one element more stands to the first one as the others do
  pub one_more : (item : X) → ((k : ℕ) (d : X) → k < n → R (get_or old k d) (get_or now k d)) → R (get_or now n item) new
      → (k : ℕ) (d : X) → k < n + 1 → R (get_or old k d) (get_or (set now n new) k d)
  one_more item before last k d within = elim (cases_eq k n) [
    | inl same ↦ subst (λ (k : ℕ). R (get_or old k d) (get_or (set now n new) k d)) (sym same)
        (subst (R (get_or old n d)) (sym (get_or-set_same now n new d inside))
        (subst (λ (x : X). R x new) (get_or_default now n item d inside ∙ rest n d (omega arith)) last))
    | inr other ↦ subst (R (get_or old k d)) (sym (get_or-set_other now n k new d other)) (before k d (let apart = other in omega (arith, within, apart)))
  ]

  -- and those behind it are as they were
  pub rest_on : (k : ℕ) (d : X) → n + 1 ≤ k → get_or (set now n new) k d ≡ get_or old k d
  rest_on k d behind = get_or-set_other now n k new d (λ same. absurd (omega (arith, same, behind))) ∙ rest k d (omega (arith, behind))

-- an element that is put back as it was changes nothing
pub put_back : {X : Type 0} (now : List X) (n : ℕ) (item new : X) → new ≡ get_or now n item → set now n new ≡ now
put_back now n item new same = ap (set now n) same ∙ set-get_or now n item
