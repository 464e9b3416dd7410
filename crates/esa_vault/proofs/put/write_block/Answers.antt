use Rattle.std.proofs.Common.{sym, ap, ◌∙◌}
use Rattle.esa_params.specs.declared.slot.Access.{Access}
use Rattle.esa_vault.proofs.put.write_block.Goals as goal

pub write-requires-clause-nonce : goal.write-requires-clause-nonce
write-requires-clause-nonce g c = c.requires.nonce ∙ sym (ap (λ (access : Access). access.nonce) c.access-access.ensures)
