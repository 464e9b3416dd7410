use Rattle.esa_laws.proofs.AfterLaws.{keeps}
use Rattle.esa_laws.proofs.completions.finished_stays.Goals as goal

pub returns-clause-finished : goal.returns-clause-finished
returns-clause-finished c = λ p d g more finished. (keeps p d 0 g more finished).finished

pub returns-clause-verdict : goal.returns-clause-verdict
returns-clause-verdict c = λ p d g more finished. (keeps p d 0 g more finished).verdict_same

pub returns-clause-trace : goal.returns-clause-trace
returns-clause-trace c = λ p d a g more finished. (keeps p d a g more finished).trace_same

pub returns-clause-places : goal.returns-clause-places
returns-clause-places c = λ p d g more finished ok. (keeps p d 0 g more finished).places_same ok
