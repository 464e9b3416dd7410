use Rattle.esa_laws.proofs.SpreadLaws.{failing-made, failing-stays}
use Rattle.esa_laws.proofs.spreads.failing_stays.Goals as goal

pub returns-clause-made : goal.returns-clause-made
returns-clause-made c = λ p d o k e. (failing-made p d o k e).0

pub returns-clause-overflows : goal.returns-clause-overflows
returns-clause-overflows c = λ p d o k e. (failing-made p d o k e).1

pub returns-clause-stays : goal.returns-clause-stays
returns-clause-stays c = λ p d o more k. failing-stays p d k o more
