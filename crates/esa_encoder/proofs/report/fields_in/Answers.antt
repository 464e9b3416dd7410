use Rattle.std.proofs.Common.{◌≡◌, ◌∙◌, ◌≤◌, ◌<◌, ℕ, true, false, sym, refl, arith, inl, inr}
use Rattle.std.proofs.lemmas.Bool.{cases_lt}
use Rattle.esa_line.proofs.TabLemmas.{third_missing, third_found}
use Rattle.esa_encoder.proofs.report.fields_in.Goals as goal

not_below : (n : ℕ) → (n < 2 → true ≡ false) → 2 ≤ n
not_below n h =
    elim (cases_lt n 2) [
      | inl few ↦ let e = h few in cc
      | inr some ↦ some
    ]

pub returns-in_err-crowd-clause-none : goal.returns-in_err-crowd-clause-none
returns-in_err-crowd-clause-none c =
    (λ _. third_missing c.args.line.now c.in_ok-head.head c.in_ok-head.ensures.place (not_below _ c.in_ok-head.ensures.none.1) (sym c.tab_place.ensures ∙ c.in_err-crowd.was), λ _. rw c.from_residual-in_err-crowd.ensures refl)

pub returns-clause-none : goal.returns-clause-none
returns-clause-none c =
    let three = third_found c.args.line.now c.in_ok-head.head c.in_ok-crowd.crowd c.in_ok-head.ensures.place (not_below _ c.in_ok-head.ensures.none.1) (sym c.tab_place.ensures ∙ c.in_ok-crowd.was) in
    (λ is. cc, λ few. absurd (omega (arith, few, three)))
