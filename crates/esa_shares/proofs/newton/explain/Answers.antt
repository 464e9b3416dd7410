use Rattle.std.proofs.Common.{◌∙◌, length, get_or, ap}
use Rattle.esa_shares.specs.Polynomial.{column}
use Rattle.esa_shares.specs.Newton.{slopes}
use Rattle.esa_shares.proofs.NewtonSteps.{explained}
use Rattle.esa_shares.proofs.newton.explain.Goals as goal

pub returns : goal.returns
returns c =
    let size = length c.args.secret.now in
    let count = length c.args.points.now in
    explained c.args.secret.now c.args.points.now c.args.shares.now c.put_slopes.new.rows c.interpolate.new.rows c.requires.some c.requires.points
    (λ i. (c.type_inv.points i).fits) (λ i. (c.type_inv.secret i).fits) (λ i. (c.type_inv.shares i).fits)
    c.requires.whole (c.interpolate.auto.rows ∙ c.put_slopes.auto.rows ∙ c.copy_from_slice.ensures.len ∙ c.requires.room)
    (λ y less. c.put_slopes.ensures y less ∙ ap (λ rows. slopes 0 (get_or c.args.secret.now y 0) c.args.points.now (column size y count rows)) c.copy_from_slice.ensures.after)
    c.interpolate.ensures
