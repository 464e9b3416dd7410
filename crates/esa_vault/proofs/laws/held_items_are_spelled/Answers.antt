use Rattle.esa_vault.proofs.SpelledLaws.{held-spelled}
use Rattle.esa_vault.proofs.laws.held_items_are_spelled.Goals as goal

pub returns : goal.returns
returns c = held-spelled
