use Rattle.std.proofs.Common.{arith, ap, ◌∙◌}
use Rattle.esa_envelope.specs.declared.label.Label.TheVariants.{Block}
use Rattle.esa_envelope.specs.Envelope.{nonce_in}
use Rattle.esa_envelope.proofs.EnvelopeLemmas.{nonce_in-sealed_as}
use Rattle.esa_vault.proofs.block.seal_block.Goals as goal

pub returns-clause-nonce : goal.returns-clause-nonce
returns-clause-nonce c =
    ap nonce_in c.seal_with.ensures ∙ nonce_in-sealed_as c.args.keys.now Block c.nonce-nonce.result c.args.plain.now (omega arith)
    ∙ c.nonce-nonce.ensures
