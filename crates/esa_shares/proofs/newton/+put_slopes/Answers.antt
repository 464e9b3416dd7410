use Rattle.std.proofs.Common.{◌<◌, ◌≢◌, ◌∙◌, length, arith, ap}
use Rattle.esa_shares.specs.Field.{times}
use Rattle.esa_shares.proofs.NewtonSteps.{slopes_none, slopes_step, all_behind, rows_behind, head_of, head_small}
use Rattle.esa_shares.proofs.PolynomialLaws.{differ}
use Rattle.esa_shares.proofs.newton.+put_slopes.Goals as goal

pub returns-in_default : goal.returns-in_default
returns-in_default t c = λ y less. slopes_none _ y _ _ c.args.points.now c.args.rows.now c.in_default.ensures.cases

pub inverse-requires : goal.inverse-requires
inverse-requires t c =
    (differ c.in-Some.point.now c.args.x (head_small _ _ _ c.in-Some.ensures.cases.0 (λ i. (c.type_inv.points i).fits)) c.ranges.x.fits
    (head_of (λ z. z ≢ c.args.x) _ _ _ c.in-Some.ensures.cases.0 c.requires.apart)).some

pub put_slopes-requires : goal.put_slopes-requires
put_slopes-requires t c = (
  omega (arith, c.decreases, c.in-Some.ensures.cases.1),
  (
    all_behind (λ z. z ≢ c.args.x) _ _ _ c.in-Some.ensures.cases.0 c.requires.apart,
    rows_behind _ c.in-Some.others.now c.args.points.now c.args.rows.now _ c.in-Some.ensures.cases.1 c.requires.whole c.split_at_mut-row.ensures.back,
  ),
)

pub returns : goal.returns
returns t c = λ y less.
    let inside : y < length c.split_at_mut-row.result.0.now = omega (arith, less, c.split_at_mut-row.ensures.front_len) in
    slopes_step _ y _ _ _ _ _ _ _ _ _ _ c.in-Some.ensures.cases.0 less c.split_at_mut-row.ensures.front c.split_at_mut-row.ensures.back
    (c.scale_difference.auto.row ∙ c.split_at_mut-row.ensures.front_len)
    (c.scale_difference.ensures y inside ∙ ap (times _) c.inverse.ensures.inverse) (c.put_slopes.ensures y less)
