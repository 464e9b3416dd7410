use Rattle.std.proofs.Common.{◌∙◌, sym, arith, refl}
use Rattle.esa_line.proofs.TabLemmas.{first_missing, second_missing, both_found, two_tabs, head_at}
use Rattle.esa_line.proofs.head.head_in.Goals as goal

pub returns-in_err-moment-clause-none : goal.returns-in_err-moment-clause-none
returns-in_err-moment-clause-none c = (λ _. first_missing c.args.line.now (sym c.tab_place.ensures ∙ c.in_err-moment.was), λ _. rw c.from_residual.ensures refl)

pub returns-in_err-sender-clause-none : goal.returns-in_err-sender-clause-none
returns-in_err-sender-clause-none c =
    (λ _. second_missing c.args.line.now c.in_ok-moment.moment (sym c.tab_place.ensures ∙ c.in_ok-moment.was) (sym c.tab_place-2.ensures ∙ c.in_err-sender.was), λ _. rw c.from_residual-in_err-sender.ensures refl)

pub returns-clause-none : goal.returns-clause-none
returns-clause-none c =
    let both = both_found c.args.line.now _ _ (sym c.tab_place.ensures ∙ c.in_ok-moment.was) (sym c.tab_place-2.ensures ∙ c.in_ok-sender.was) in
    let two = two_tabs c.args.line.now _ _ both.0 both.1 in
    (λ is. cc, λ few. absurd (omega (arith, few, two)))

pub returns-clause-place : goal.returns-clause-place
returns-clause-place c =
    let both = both_found c.args.line.now _ _ (sym c.tab_place.ensures ∙ c.in_ok-moment.was) (sym c.tab_place-2.ensures ∙ c.in_ok-sender.was) in
    head_at c.args.line.now _ _ both.0 both.1
