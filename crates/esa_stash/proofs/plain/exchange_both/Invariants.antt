use Rattle.std.proofs.Common.{◌≡◌, length}
use Rattle.esa_stash.proofs.plain.exchange_both.Given as goal

abbrev pub invariant-loop-target : goal.invariant-loop-target
invariant-loop-target g l = length l.items.items ≡ l.target-index
