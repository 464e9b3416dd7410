use Rattle.esa_laws.proofs.SizeLaws.{first-all, first-more, first-zero}
use Rattle.esa_laws.proofs.sizes.buckets_cover.Goals as goal

pub returns-clause-first : goal.returns-clause-first
returns-clause-first c = first-zero

pub returns-clause-next : goal.returns-clause-next
returns-clause-next c = first-more

pub returns-clause-last : goal.returns-clause-last
returns-clause-last c = first-all
