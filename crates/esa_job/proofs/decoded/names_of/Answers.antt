use Rattle.std.proofs.Common.{◌∙◌}
use Rattle.serde_json.specs.View.{view}
use Rattle.esa_job.specs.Values.{name_in}
use Rattle.esa_job.proofs.KeptLemmas.{more_filtered}
use Rattle.esa_job.proofs.decoded.names_of.Goals as goal

pub loop-value-preserved : goal.loop-value-preserved
loop-value-preserved c =
    c.in_ok-push_name.ensures ∙ more_filtered name_in view c.args.values.now c.loop-value.value-index c.value-item.result _ c.loop-value-test.true c.value-item.is c.loop-value.invariant
