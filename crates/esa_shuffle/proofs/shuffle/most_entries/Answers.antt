-- The entries of one attempt more.
use Rattle.std.proofs.Common.{arith}
use Rattle.esa_shuffle.proofs.Running.{entries-more}
use Rattle.esa_shuffle.proofs.shuffle.most_entries.Goals as goal

pub loop-attempt-preserved : goal.loop-attempt-preserved
loop-attempt-preserved c =
    let more = entries-more c.args.plan.now c.args.turns.now c.loop-attempt.attempt in
    let here = c.entries_of-entries.ensures.value in
    let few = c.entries_of-entries.ensures.few in
    let value = c.loop-attempt.invariant.value in
    let bound = c.loop-attempt.invariant.few in
    record {
      value = omega (arith, more, here, value);
      few = omega (arith, few, bound);
    }
