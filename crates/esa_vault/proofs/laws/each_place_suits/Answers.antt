use Rattle.esa_vault.proofs.TextLaws.{filled-suits}
use Rattle.esa_vault.proofs.laws.each_place_suits.Goals as goal

pub returns : goal.returns
returns c = filled-suits
