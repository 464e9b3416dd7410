use Rattle.std.proofs.Common.{◌∙◌, ◌+◌, get_or, drop, sym, ap, arith}
use Rattle.std.proofs.lemmas.List.{drop_more, drop_all}
use Rattle.esa_shares.specs.Field.{times}
use Rattle.esa_shares.specs.Polynomial.{factor, weight}
use Rattle.esa_shares.proofs.FieldLaws.{times_one, one_times, times_assoc}
use Rattle.esa_shares.proofs.PolynomialLaws.{weight_below}
use Rattle.esa_shares.proofs.polynomial.weight_of.Goals as goal

pub loop-point-init : goal.loop-point-init
loop-point-init c = record { small = omega arith; whole = times_one _ (weight_below c.args.x c.args.points.now) }

pub loop-point-preserved : goal.loop-point-preserved
loop-point-preserved c =
    let i = c.loop-point.point-index in
    let product = c.loop-point.product in
    let point = get_or c.args.points.now i 0 in
    let rest = weight c.args.x (drop (i + 1) c.args.points.now) in
    record {
      small = c.mul-product.type_inv;
      whole = ap (λ n. times n rest) (c.mul-product.ensures.product ∙ ap (times product) c.factor_of.ensures) ∙ times_assoc product (factor c.args.x point) rest
          ∙ ap (λ xs. times product (weight c.args.x xs)) (sym (drop_more c.args.points.now i 0 c.loop-point-test.true)) ∙ c.loop-point.invariant.whole;
    }

pub returns : goal.returns
returns c =
    let i = c.loop-point.point-index in
    sym (one_times c.loop-point.product c.loop-point.invariant.small)
    ∙ sym (ap (λ xs. times c.loop-point.product (weight c.args.x xs)) (drop_all i c.args.points.now c.loop-point-test.false)) ∙ c.loop-point.invariant.whole
