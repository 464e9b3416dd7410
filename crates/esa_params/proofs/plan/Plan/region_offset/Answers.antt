use Rattle.std.proofs.Common.{arith}
use Rattle.esa_params.proofs.Offsets.{fits_together, envelope_small, item_small}
use Rattle.esa_params.proofs.plan.Plan.region_offset.Goals as goal

pub overflow_add-result-in-Output : goal.overflow_add-result-in-Output
overflow_add-result-in-Output c =
    let envelope = envelope_small c.self.inside.form in
    let item = item_small c.args.self.now.form in
    omega (
      arith,
      fits_together c.from.result c.from-2.result c.from-b.result c.from-item.result c.from-3.result c.from-in-Output.result
          (omega (arith, envelope)) (omega arith) (omega arith) (omega (arith, item)) (omega arith) (omega arith),
    )

pub returns-in-Tail-clause-small : goal.returns-in-Tail-clause-small
returns-in-Tail-clause-small c =
    let envelope = envelope_small c.self.inside.form in
    let item = item_small c.args.self.now.form in
    omega (
      arith,
      fits_together c.from.result c.from-2.result c.from-b.result c.from-item.result c.from-3.result 0
          (omega (arith, envelope)) (omega arith) (omega arith) (omega (arith, item)) (omega arith) (omega arith),
    )

pub returns-in-Output-clause-small : goal.returns-in-Output-clause-small
returns-in-Output-clause-small c =
    let envelope = envelope_small c.self.inside.form in
    let item = item_small c.args.self.now.form in
    fits_together c.from.result c.from-2.result c.from-b.result c.from-item.result c.from-3.result c.from-in-Output.result
    (omega (arith, envelope)) (omega arith) (omega arith) (omega (arith, item)) (omega arith) (omega arith)
