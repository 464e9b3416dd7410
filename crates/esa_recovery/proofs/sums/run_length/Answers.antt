use Rattle.std.proofs.Common.{get_or, sym, arith}
use Rattle.std.specs.Cmp.Lexicographic.{bytes_decides}
use Rattle.esa_recovery.proofs.MergeLaws.{value-end}
use Rattle.esa_recovery.proofs.sums.run_length.Goals as goal

pub returns-else-eq-clause-one : goal.returns-else-eq-clause-one
returns-else-eq-clause-one c = λ k d below. (bytes_decides (get_or c.args.sums.now k d).value.now (get_or c.args.sums.now 0 d).value.now).0 (c.loop-length.invariant.same k d below)

pub returns-else-eq-clause-end : goal.returns-else-eq-clause-end
returns-else-eq-clause-end c = λ d _. value-end c.args.sums.now c.loop-length.length _ d c.loop-length-test.true c.requires (sym c.if-eq.ensures)

pub returns-after-loop-length-clause-one : goal.returns-after-loop-length-clause-one
returns-after-loop-length-clause-one c = λ k d below. (bytes_decides (get_or c.args.sums.now k d).value.now (get_or c.args.sums.now 0 d).value.now).0 (c.loop-length.invariant.same k d below)

pub returns-after-loop-length-clause-end : goal.returns-after-loop-length-clause-end
returns-after-loop-length-clause-end c = λ d below is. absurd (omega (arith, c.loop-length-test.false, below))
