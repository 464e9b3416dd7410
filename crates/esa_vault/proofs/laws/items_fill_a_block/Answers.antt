use Rattle.esa_vault.proofs.TextLaws.{item-found, length-text_of, text-fills}
use Rattle.esa_vault.proofs.laws.items_fill_a_block.Goals as goal

pub returns-clause-length : goal.returns-clause-length
returns-clause-length c = length-text_of

pub returns-clause-item : goal.returns-clause-item
returns-clause-item c = item-found

pub returns-clause-filled : goal.returns-clause-filled
returns-clause-filled c = text-fills
