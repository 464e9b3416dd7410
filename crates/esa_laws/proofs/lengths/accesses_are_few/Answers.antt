use Rattle.esa_laws.proofs.LengthLaws.{attempt-le, shuffle-le, spread-le, trace-le}
use Rattle.esa_laws.proofs.lengths.accesses_are_few.Goals as goal

pub returns-clause-turns : goal.returns-clause-turns
returns-clause-turns c = spread-le

pub returns-clause-attempt : goal.returns-clause-attempt
returns-clause-attempt c = attempt-le

pub returns-clause-shuffle : goal.returns-clause-shuffle
returns-clause-shuffle c = shuffle-le

pub returns-clause-run : goal.returns-clause-run
returns-clause-run c = trace-le
