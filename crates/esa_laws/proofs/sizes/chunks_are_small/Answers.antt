use Rattle.esa_laws.proofs.SizeLaws.{chunk-le}
use Rattle.esa_laws.proofs.sizes.chunks_are_small.Goals as goal

pub returns : goal.returns
returns c = chunk-le
