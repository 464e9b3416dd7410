use Rattle.std.proofs.Common.{length}
use Rattle.esa_coins.proofs.Marks.{Marked}
use Rattle.esa_coins.proofs.orders.mark_each.Given as goal

abbrev pub invariant-loop-number : goal.invariant-loop-number
invariant-loop-number l = Marked (length l.initial.seen) l.numbers l.number-index l.seen
