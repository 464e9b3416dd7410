use Rattle.std.proofs.Common.{◌∙◌, ap, ap₂, sym, ⊎_elim}
use Rattle.esa_shares.specs.Field.{times}
use Rattle.esa_shares.proofs.FieldLaws.{power_adds, times_zero, zero_times}
use Rattle.esa_shares.proofs.field.multiply.Goals as goal

pub returns-then-a-eq0 : goal.returns-then-a-eq0
returns-then-a-eq0 c =
    ⊎_elim
    (λ none. sym (ap (λ n. times n c.args.b) none ∙ zero_times c.args.b))
    (λ none. sym (ap (times c.args.a) none.1 ∙ times_zero c.args.a))
    c.then-a-eq0.either

pub returns : goal.returns
returns c = c.power.ensures ∙ power_adds 3 c.exponent.result c.exponent-2.result ∙ ap₂ times c.exponent.ensures.power c.exponent-2.ensures.power
