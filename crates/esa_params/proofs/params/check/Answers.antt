use Rattle.std.proofs.Common.{◌∙◌, sym}
use Rattle.esa_params.proofs.Kept.{all_kept}
use Rattle.esa_params.proofs.params.check.Goals as goal

pub invariant_of-result : goal.invariant_of-result
invariant_of-result c = all_kept c.args.params.now (sym c.first_past.ensures ∙ c.in-None.is)
