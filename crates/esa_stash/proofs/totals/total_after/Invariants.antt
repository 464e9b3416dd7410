use Rattle.std.proofs.Common.{◌≡◌, sum_by}
use Rattle.esa_stash.specs.Sizes.{below}
use Rattle.esa_stash.specs.Dealing.{left_after}
use Rattle.esa_stash.proofs.totals.total_after.Given as goal

abbrev pub invariant-loop-target : goal.invariant-loop-target
invariant-loop-target l = l.total ≡ sum_by (left_after l.cells l.c l.arriving) (below l.target)
