use Rattle.std.proofs.Common.{◌≡◌, ◌∙◌, ◌<◌, get_or, ap, sym, subst}
use Rattle.esa_shares.specs.declared.field.TheConstants.{EXPONENTS}
use Rattle.esa_shares.specs.Field.{power}
use Rattle.esa_shares.proofs.TableLaws.{exponent_at}
use Rattle.esa_shares.proofs.field.exponent.Goals as goal

pub returns-clause-power : goal.returns-clause-power
returns-clause-power c =
    let is : c.from-2.result ≡ get_or EXPONENTS c.args.a 0 = c.from-2.ensures ∙ ap (λ n. get_or EXPONENTS n 0) c.from.ensures in
    ap (power 3) is ∙ (exponent_at c.args.a c.ranges.a.fits c.requires).is

pub returns-clause-small : goal.returns-clause-small
returns-clause-small c =
    let is : c.from-2.result ≡ get_or EXPONENTS c.args.a 0 = c.from-2.ensures ∙ ap (λ n. get_or EXPONENTS n 0) c.from.ensures in
    subst (λ n. n < 255) (sym is) (exponent_at c.args.a c.ranges.a.fits c.requires).small
