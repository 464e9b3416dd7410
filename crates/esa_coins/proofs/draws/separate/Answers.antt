use Rattle.std.proofs.Common.{arith}
use Rattle.esa_coins.proofs.Separate.{none_counted, entry_counted, separator_counted, distinct_entries, all_counted}
use Rattle.esa_coins.proofs.draws.separate.Goals as goal
use Rattle.esa_coins.proofs.draws.separate.Goals.{then-place-out, else-place-out}

pub loop-entry-init : goal.loop-entry-init
loop-entry-init c = record { seen = omega arith; counted = none_counted _ _ _ }

pub loop-entry-preserved : goal.loop-entry-preserved
loop-entry-preserved c =
    let so = c.loop-entry.invariant in
    let apart = distinct_entries c.args.entries.now c.requires.permutes in
    elim c.if-place-out.branch [
      | then-place-out w ↦ rw (w.out-is, w.seen-is) (record {
        seen = omega arith;
        counted = entry_counted _ _ _ _ _ c.loop-entry-test.true (omega arith) c.loop-entry.auto.out apart so.counted;
      })
      | else-place-out w ↦ rw (w.out-is, w.seen-is) (record {
        seen = omega arith;
        counted = separator_counted _ _ _ _ _ c.loop-entry-test.true (omega arith) so.counted;
      })
    ]

pub returns : goal.returns
returns c = all_counted _ _ _ _ _ c.requires.permutes c.requires.within (omega arith) c.loop-entry.auto.out c.loop-entry.invariant.counted
