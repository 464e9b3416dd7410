use Rattle.std.proofs.Common.{refl}
use Rattle.std.specs.Fmt.{digits}
use Rattle.esa_spec.proofs.cases.two_workers.Goals as goal

pub returns-clause-file : goal.returns-clause-file
unfolding digits
returns-clause-file c = refl
