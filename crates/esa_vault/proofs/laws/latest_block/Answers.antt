use Rattle.esa_vault.proofs.StoredLaws.{latest-sealed}
use Rattle.esa_vault.proofs.laws.latest_block.Goals as goal

pub returns : goal.returns
returns c = latest-sealed
