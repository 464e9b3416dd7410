use Rattle.esa_laws.proofs.SizeLaws.{size-first}
use Rattle.esa_laws.proofs.sizes.buckets_shrink.Goals as goal

pub returns : goal.returns
returns c = size-first
