use Rattle.std.proofs.Common.{rules, ◌≡◌, ◌<◌, ◌+◌, arith}
use Rattle.esa_stash.specs.Dealing.{left_after}
use Rattle.esa_stash.proofs.TotalLemmas.{sum_by-below, sum_by-below-within}
use Rattle.esa_stash.proofs.totals.total_after.Goals as goal
use Rattle.esa_stash.proofs.totals.total_after.Goals.{After-saturating_sub-total}

-- what is added for one target
added_is : (c : After-saturating_sub-total) → c.saturating_sub-total.result ≡ left_after c.args.cells.now c.args.c c.args.arriving.now c.loop-target.target
added_is c = let chain = c.length.ensures.length in omega arith

pub overflow_add-total : goal.overflow_add-total
overflow_add-total c =
    let added = added_is (goal.at.overflow_add-total c).After-saturating_sub-total in
    let within = sum_by-below-within (left_after c.args.cells.now c.args.c c.args.arriving.now) c.loop-target.target c.args.targets c.loop-target-test.true in
    let fits : c.loop-target.total + c.saturating_sub-total.result < 18446744073709551616 = omega arith in
    search rules

pub loop-target-preserved : goal.loop-target-preserved
loop-target-preserved c =
    let added = added_is (goal.at.loop-target-preserved c).After-saturating_sub-total in
    let more = sum_by-below (left_after c.args.cells.now c.args.c c.args.arriving.now) c.loop-target.target in
    omega arith
