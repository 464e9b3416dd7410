use Rattle.std.proofs.Common.{◌∙◌, ◌<◌, length, arith}
use Rattle.esa_shares.proofs.NewtonSteps.{expanded_none, expanded_more}
use Rattle.esa_shares.proofs.newton.+expand.Goals as goal

pub returns-then-behind-eq0 : goal.returns-then-behind-eq0
returns-then-behind-eq0 t c = λ y less. expanded_none c.args.size y c.args.x c.args.behind c.args.rows.now c.if-behind-eq0.true

pub returns : goal.returns
returns t c = λ y less.
    let inside : y < length c.split_at_mut-row.result.0.now = omega (arith, less, c.split_at_mut-row.ensures.front_len) in
    expanded_more c.args.size y c.args.x c.args.behind c.args.rows.now _ _ _ _ c.if-behind-eq0.false less c.split_at_mut-row.ensures.front c.split_at_mut-row.ensures.back
    (c.add_scaled.auto.out ∙ c.split_at_mut-row.ensures.front_len) (c.add_scaled.ensures y inside) (c.expand.ensures y less)
