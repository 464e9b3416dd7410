use Rattle.esa_vault.proofs.NewItems.{held-item_of, spelled-item_of}
use Rattle.esa_vault.proofs.TextLaws.{dummy_spelled}
use Rattle.esa_vault.proofs.laws.new_items_are_spelled.Goals as goal

pub returns-clause-dummy : goal.returns-clause-dummy
returns-clause-dummy c = λ size either. dummy_spelled size

pub returns-clause-spelled : goal.returns-clause-spelled
returns-clause-spelled c = spelled-item_of

pub returns-clause-held : goal.returns-clause-held
returns-clause-held c = held-item_of
