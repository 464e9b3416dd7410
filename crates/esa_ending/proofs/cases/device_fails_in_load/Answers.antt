use Rattle.std.proofs.Common.{refl}
use Rattle.esa_ending.proofs.cases.device_fails_in_load.Goals as goal

pub returns-clause-turns : goal.returns-clause-turns
returns-clause-turns c = refl

pub returns-clause-not_all : goal.returns-clause-not_all
returns-clause-not_all c = λ none. cc none
