use Rattle.serde_json.specs.View.{view}
use Rattle.esa_coins.proofs.ListLemmas.{list_in-slice, list_in-other}
use Rattle.esa_coins.proofs.lists.list_in.Goals as goal

pub returns-then-values-count : goal.returns-then-values-count
returns-then-values-count c =
    rw c.in-Some.is (list_in-slice view c.args.count c.args.refused (view c.in-Some.value.now) c.in-Some-values_in.values.now c.in-Some-values_in.ensures c.if-values-count.true)

pub returns-else-values-count : goal.returns-else-values-count
returns-else-values-count c =
    rw c.in-Some.is (list_in-other view c.args.count c.args.refused (view c.in-Some.value.now) c.in-Some-values_in.values.now c.in-Some-values_in.ensures c.if-values-count.false)
