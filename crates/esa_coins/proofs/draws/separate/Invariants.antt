use Rattle.std.proofs.Common.{◌≤◌, length}
use Rattle.esa_coins.proofs.Separate.{Counted}
use Rattle.esa_coins.proofs.draws.separate.Given as goal

abbrev pub invariant-loop-entry : goal.invariant-loop-entry
invariant-loop-entry l = record {
  seen : l.seen ≤ l.entry-index;
  counted : Counted (length l.initial.out) l.entries l.entry-index l.seen l.out;
}
