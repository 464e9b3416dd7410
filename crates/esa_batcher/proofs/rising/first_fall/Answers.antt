use Rattle.std.proofs.Common.{arith}
use Rattle.esa_batcher.proofs.RisingLaws.{falls_here, falls_later, left_later}
use Rattle.esa_batcher.proofs.rising.first_fall.Goals as goal

pub returns-then-is_below : goal.returns-then-is_below
returns-then-is_below c =
    falls_here c.args.size c.args.count c.args.first c.loop-next.next c.loop-next.rest.now c.split_at.result.0.now c.split_at.result.1.now c.loop-next.invariant.low c.loop-next-test.true c.split_at.ensures.front c.split_at.ensures.back
    _ c.is_below.result c.loop-next.invariant.same c.is_below.ensures c.if-is_below.true

pub loop-next-preserved : goal.loop-next-preserved
loop-next-preserved c =
    let rest = c.loop-next.rest.now in
    let others = c.split_at.result.1.now in
    record {
      low = omega arith;
      left = left_later c.args.size c.args.count c.args.first c.loop-next.next rest c.split_at.result.0.now others c.loop-next.invariant.low c.loop-next-test.true c.split_at.ensures.front c.split_at.ensures.back c.loop-next.invariant.left;
      same = falls_later c.args.size c.args.count c.args.first c.loop-next.next rest c.split_at.result.0.now others c.loop-next.invariant.low c.loop-next-test.true c.split_at.ensures.front c.split_at.ensures.back
          _ c.is_below.result c.loop-next.invariant.same c.is_below.ensures c.if-is_below.false;
    }
