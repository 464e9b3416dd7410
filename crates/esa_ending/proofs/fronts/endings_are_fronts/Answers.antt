use Rattle.esa_ending.proofs.FrontLaws.{load-front, whole}
use Rattle.esa_spec.specs.Traces.{trace}
use Rattle.esa_ending.proofs.fronts.endings_are_fronts.Goals as goal

pub returns-clause-batch_failed : goal.returns-clause-batch_failed
returns-clause-batch_failed c = λ p ds hs seen bucket b. load-front p ds hs bucket seen.trace b.there b.written

pub returns-clause-whole : goal.returns-clause-whole
returns-clause-whole c = λ p ds hs seen. whole seen.trace (trace p ds hs)
