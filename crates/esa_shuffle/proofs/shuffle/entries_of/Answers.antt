-- The completed list has the turns of the list, and those that are added.
use Rattle.std.proofs.Common.{◌+◌, ◌*◌, length, ap, ap₂, ◌∙◌, arith}
use Rattle.esa_laws.proofs.FinishLaws.{length-completed}
use Rattle.esa_model.specs.Forecast.{handed_in}
use Rattle.esa_shuffle.proofs.shuffle.entries_of.Goals as goal

pub returns-clause-value : goal.returns-clause-value
returns-clause-value c =
    let p = c.args.plan.now in
    let whole = length-completed p (handed_in c.args.turns.now c.args.attempt) in
    let list = ap length c.list.ensures.value in
    let added = ap₂ (λ b w. b * (b + 3) * w) (c.from-b.ensures ∙ c.b.ensures.value) (c.from.ensures ∙ c.workers.ensures.value) in
    omega (arith, whole, list, added)
