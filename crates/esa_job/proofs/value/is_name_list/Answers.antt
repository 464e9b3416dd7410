use Rattle.std.proofs.Common.{arith}
use Rattle.serde_json.specs.View.{view}
use Rattle.esa_job.proofs.ValueLemmas.{is_name_list-map}
use Rattle.esa_job.proofs.value.is_name_list.Goals as goal

pub returns-then-values-le-MOST_INPUTS : goal.returns-then-values-le-MOST_INPUTS
returns-then-values-le-MOST_INPUTS c = rw (is_name_list-map view c.args.values.now) (grind arith)

pub returns-else-values-le-MOST_INPUTS : goal.returns-else-values-le-MOST_INPUTS
returns-else-values-le-MOST_INPUTS c = rw (is_name_list-map view c.args.values.now) (grind arith)
