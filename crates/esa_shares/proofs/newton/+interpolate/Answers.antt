use Rattle.std.proofs.Common.{◌∙◌, ◌<◌, length, arith}
use Rattle.esa_shares.proofs.NewtonSteps.{interpolated_none, interpolated_step, head_apart, points_behind, rows_behind}
use Rattle.esa_shares.proofs.newton.+interpolate.Goals as goal

pub returns-in_default : goal.returns-in_default
returns-in_default t c = λ y less. interpolated_none c.args.size y c.args.points.now c.args.rows.now c.in_default.ensures.cases

pub put_slopes-requires-clause-apart : goal.put_slopes-requires-clause-apart
put_slopes-requires-clause-apart t c = head_apart _ _ _ c.in-Some.ensures.cases.0 c.requires.points

pub interpolate-requires : goal.interpolate-requires
interpolate-requires t c = (
  omega (arith, c.decreases, c.in-Some.ensures.cases.1),
  (
    points_behind _ _ _ c.in-Some.ensures.cases.0 c.requires.points,
    c.put_slopes.auto.rows ∙ rows_behind _ c.in-Some.others.now c.args.points.now c.args.rows.now _ c.in-Some.ensures.cases.1 c.requires.whole c.split_at_mut-first.ensures.back,
  ),
)

pub returns : goal.returns
returns t c = λ y less.
    let inside : y < length c.split_at_mut-first.result.0.now = omega (arith, less, c.split_at_mut-first.ensures.front_len) in
    interpolated_step c.args.size y _ c.in-Some.others.now c.args.points.now c.args.rows.now c.split_at_mut-first.result.0.now c.split_at_mut-first.result.1.now c.put_slopes.new.rows c.interpolate.new.rows _
    c.in-Some.ensures.cases.0 less c.split_at_mut-first.ensures.front c.split_at_mut-first.ensures.back c.split_at_mut-first.ensures.front_len
    (c.put_slopes.ensures y inside) (c.interpolate.ensures y less) (c.expand.ensures y less)
