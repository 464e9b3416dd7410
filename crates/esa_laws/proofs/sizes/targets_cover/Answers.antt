use Rattle.esa_laws.proofs.SizeLaws.{reached-all}
use Rattle.esa_laws.proofs.sizes.targets_cover.Goals as goal

pub returns : goal.returns
returns c = reached-all
