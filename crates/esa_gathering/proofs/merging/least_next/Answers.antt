use Rattle.std.proofs.Common.{arith}
use Rattle.esa_gathering.proofs.Left.{none_is, none_left}
use Rattle.esa_gathering.proofs.merging.least_next.Goals as goal

pub returns-clause-none : goal.returns-clause-none
returns-clause-none c = λ none. none_left c.args.texts.now (λ before d below. c.loop-place.invariant.none (none_is c.loop-place.least none) before d (omega (arith, below, c.loop-place-test.false)))
