use Rattle.std.proofs.Common.{arith, length}
use Rattle.esa_ending.proofs.CompletionLaws.{all-complete, as-many, completions-same}
use Rattle.esa_ending.proofs.decisions.completions_decide.Goals as goal

pub returns-clause-finished : goal.returns-clause-finished
returns-clause-finished c = λ p ds. all-complete p ds 0

pub returns-clause-count : goal.returns-clause-count
returns-clause-count c = λ p ds. as-many p ds 0

pub returns-clause-same : goal.returns-clause-same
returns-clause-same c = λ p ds es turns same. completions-same p ds es (length turns) same 0 turns (omega arith)
