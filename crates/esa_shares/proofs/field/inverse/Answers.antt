use Rattle.std.proofs.Common.{◌≡◌, ◌∙◌, ap}
use Rattle.esa_shares.specs.Field.{times}
use Rattle.esa_shares.proofs.FieldLaws.{inverse_only}
use Rattle.esa_shares.proofs.TableLaws.{one_at}
use Rattle.esa_shares.proofs.field.inverse.Goals as goal

pub returns-clause-one : goal.returns-clause-one
returns-clause-one c = ap (times c.args.a) c.power.ensures ∙ one_at c.args.a c.exponent.result c.exponent.ensures.power c.exponent.ensures.small

pub returns-clause-inverse : goal.returns-clause-inverse
returns-clause-inverse c =
    let one : times c.args.a c.power.result ≡ 1 = ap (times c.args.a) c.power.ensures ∙ one_at c.args.a c.exponent.result c.exponent.ensures.power c.exponent.ensures.small in
    inverse_only c.args.a c.power.result c.ranges.a.fits c.power.type_inv c.requires one
