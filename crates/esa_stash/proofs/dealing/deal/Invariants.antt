use Rattle.std.proofs.Common.{◌≡◌, length, take}
use Rattle.esa_stash.specs.Dealing.{AreDealt, line_after}
use Rattle.esa_stash.proofs.dealing.deal.Given as goal

abbrev pub invariant-loop-target : goal.invariant-loop-target
invariant-loop-target l = record {
  dealt : AreDealt (length l.fn.counts) l.fn.c (line_after l.fn.cells (take (length l.yielded) l.fn.targets) (take (length l.yielded) l.fn.items)) l.cells l.chunks l.counts;
  chains : length l.cells.chains ≡ length l.fn.cells.chains;
  room : l.cells.room ≡ l.fn.cells.room;
}
