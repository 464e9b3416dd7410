use Rattle.std.proofs.Common.{sym, subst}
use Rattle.esa_params.specs.declared.form.Form.{Form}
use Rattle.esa_intake.specs.Keeping.{IsSealedOf}
use Rattle.esa_intake.proofs.Rules.{puts, sender_sees}
use Rattle.esa_intake.proofs.intake.Intake.put.Goals as goal

pub push_as-requires-clause-rule : goal.push_as-requires-clause-rule
push_as-requires-clause-rule g c = (
  puts _ _ _ _ c.requires.sender.2 (subst (λ (f : Form). IsSealedOf f c.args.sealed) (sym c.requires.sender.3) c.requires.form),
  sender_sees _ _ c.requires.sender.2,
)
