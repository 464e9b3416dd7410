use Rattle.std.proofs.Common.{◌+◌, arith}
use Rattle.esa_analyser.specs.Opened.{reported}
use Rattle.esa_analyser.specs.Repeated.{weighed}
use Rattle.esa_analyser.proofs.Filled.{left_over, sum_further, at_most_one}
use Rattle.esa_analyser.proofs.keys.fill.Goals as goal

pub loop-preserved : goal.loop-preserved
loop-preserved g c =
    let size = g.row.P + 40 in
    let i = c.loop.invariant in
    let added = c.add_opened.ensures in
    record {
      left = left_over size c.args.number c.loop.counter c.loop.rest.now c.split_at.result.1.now c.loop-test.true i.left c.split_at.ensures.back;
      counted = λ f. sum_further f (reported c.args.inner.now) size c.args.number c.loop.counter c.loop.rest.now c.split_at.result.0.now c.split_at.result.1.now _ (weighed f c.loop.keys.items) _ c.loop-test.true c.split_at.ensures.front c.split_at.ensures.back (i.counted f) (added.counted f);
      each = added.each;
      few = omega (arith, added.counted (λ value. 1), at_most_one (reported c.args.inner.now c.split_at.result.0.now), i.few);
      short = omega (arith, added.short, i.short);
      room = omega (arith, added.room, i.room);
    }
