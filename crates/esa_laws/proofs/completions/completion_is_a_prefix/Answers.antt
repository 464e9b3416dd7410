use Rattle.esa_laws.proofs.AfterLaws.{completion-keeps}
use Rattle.esa_laws.proofs.FinishLaws.{prefix, prefix-finished}
use Rattle.esa_laws.proofs.LaterLaws.{places-kept, trace-completed}
use Rattle.esa_laws.proofs.completions.completion_is_a_prefix.Goals as goal

pub returns-clause-prefix : goal.returns-clause-prefix
returns-clause-prefix c = prefix

pub returns-clause-finished : goal.returns-clause-finished
returns-clause-finished c = prefix-finished

pub returns-clause-verdict : goal.returns-clause-verdict
returns-clause-verdict c = λ p d h finished. (completion-keeps p d h finished 0).verdict_same

pub returns-clause-trace : goal.returns-clause-trace
returns-clause-trace c = λ p d a h finished. (completion-keeps p d h finished a).trace_same

pub returns-clause-places : goal.returns-clause-places
returns-clause-places c = λ p d h finished ok. (completion-keeps p d h finished 0).places_same ok

pub returns-clause-places_made : goal.returns-clause-places_made
returns-clause-places_made c = places-kept

pub returns-clause-run : goal.returns-clause-run
returns-clause-run c = trace-completed
