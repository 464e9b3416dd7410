use Rattle.serde_json.specs.View.{view}
use Rattle.esa_coins.proofs.TableReading.{attempts-tables}
use Rattle.esa_coins.proofs.table.TableCoins.read.Goals as goal

pub invariant_of-result : goal.invariant_of-result
invariant_of-result c = record {
  planned = c.n-records.ensures.limits;
  drawn = attempts-tables c.args.plan (view c.in-Ok-Some.object) _ c.in_ok-attempts.ensures;
}
