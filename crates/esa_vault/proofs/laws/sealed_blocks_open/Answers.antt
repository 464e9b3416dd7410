use Rattle.esa_vault.proofs.BlockLaws.{opens-sealed, text_in-sealed}
use Rattle.esa_vault.proofs.laws.sealed_blocks_open.Goals as goal

pub returns-clause-text : goal.returns-clause-text
returns-clause-text c = text_in-sealed

pub returns-clause-opens : goal.returns-clause-opens
returns-clause-opens c = opens-sealed
