use Rattle.std.proofs.Common.{◌≤◌, length}
use Rattle.esa_recovery.proofs.MergeLaws.{plain-at}
use Rattle.esa_recovery.proofs.spelled.spelled.Goals as goal

pub put_row-requires : goal.put_row-requires
put_row-requires c = plain-at (λ row. length row.0 ≤ 190) c.args.sums.now c.loop-sum.sum-index _ c.loop-sum-test.true c.requires.short
