use Rattle.esa_ending.proofs.DecisionLaws.{not-both, overflow-same, success-same}
use Rattle.esa_ending.proofs.decisions.runs_agree.Goals as goal

pub returns-clause-success : goal.returns-clause-success
returns-clause-success c = λ p ds es hs seen other a e same. success-same p ds es hs seen other same a e

pub returns-clause-overflow : goal.returns-clause-overflow
returns-clause-overflow c = λ p ds es hs seen other failures others same. overflow-same p ds es hs seen other same failures others

pub returns-clause-not_both : goal.returns-clause-not_both
returns-clause-not_both c = λ p ds es hs seen other a failures same. not-both p ds es hs seen other same a failures
