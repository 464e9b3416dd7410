use Rattle.std.proofs.Common.{◌<◌, ◌≤◌, length, arith}
use Rattle.std.proofs.lemmas.List.Elements.{All-from_get_or}
use Rattle.esa_coins.proofs.RandomRange.{range_drawn, one_drawn, one_below, all_drawn}
use Rattle.esa_coins.proofs.draws.draw_below.Goals as goal

pub loop-target-preserved : goal.loop-target-preserved
loop-target-preserved c =
    let so = c.loop-target.invariant in
    let inside : c.loop-target.target-index < length c.loop-target.out = omega arith in
    record {
      drawn = one_drawn _ _ _ _ _ _ _ inside so.drawn (range_drawn _ _ _ _ _ c.ranges.bound.fits c.random_range.ensures.drawn);
      below = one_below _ _ _ _ inside c.random_range.ensures.within.1 so.below;
    }

pub returns-clause-value : goal.returns-clause-value
returns-clause-value c =
    let so = c.loop-target.invariant in
    let whole : length c.loop-target.out ≤ c.loop-target.target-index = omega arith in
    all_drawn _ _ _ _ _ whole so.drawn

pub returns-clause-below : goal.returns-clause-below
returns-clause-below c =
    All-from_get_or (λ target. target < c.args.bound) c.loop-target.out 0 (λ k inside. c.loop-target.invariant.below k (omega arith))
