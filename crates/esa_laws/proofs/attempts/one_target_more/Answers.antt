use Rattle.esa_laws.proofs.WalkLaws.{reached-more, reached-zero}
use Rattle.esa_laws.proofs.attempts.one_target_more.Goals as goal

pub returns-clause-none : goal.returns-clause-none
returns-clause-none c = reached-zero

pub returns-clause-more : goal.returns-clause-more
returns-clause-more c = reached-more
