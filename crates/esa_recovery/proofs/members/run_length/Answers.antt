use Rattle.std.proofs.Common.{get_or, sym, arith}
use Rattle.std.specs.Cmp.Lexicographic.{bytes_decides}
use Rattle.esa_recovery.proofs.RunLaws.{run-end}
use Rattle.esa_recovery.proofs.members.run_length.Goals as goal

pub returns-else-eq-clause-one : goal.returns-else-eq-clause-one
returns-else-eq-clause-one c = λ k d below. (bytes_decides (get_or c.args.found.now k d).group (get_or c.args.found.now 0 d).group).0 (c.loop-length.invariant.same k d below)

pub returns-else-eq-clause-end : goal.returns-else-eq-clause-end
returns-else-eq-clause-end c = λ d _. run-end c.args.found.now c.loop-length.length _ d c.loop-length-test.true c.requires (sym c.if-eq.ensures)

pub returns-after-loop-length-clause-one : goal.returns-after-loop-length-clause-one
returns-after-loop-length-clause-one c = λ k d below. (bytes_decides (get_or c.args.found.now k d).group (get_or c.args.found.now 0 d).group).0 (c.loop-length.invariant.same k d below)

pub returns-after-loop-length-clause-end : goal.returns-after-loop-length-clause-end
returns-after-loop-length-clause-end c = λ d below is. absurd (omega (arith, c.loop-length-test.false, below))
