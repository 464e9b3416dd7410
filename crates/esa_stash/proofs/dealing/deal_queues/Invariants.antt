use Rattle.std.proofs.Common.{◌≡◌, ℕ, ◌≤◌, length}
use Rattle.esa_stash.specs.Dealing.{AreDealt, queue_of}
use Rattle.esa_stash.proofs.dealing.deal_queues.Given as goal

abbrev pub invariant-loop-target : goal.invariant-loop-target
invariant-loop-target l = record {
  dealt : AreDealt l.target l.fn.c (queue_of l.fn.cells) l.cells l.chunks l.counts;
  later : (i : ℕ) → l.target ≤ i → queue_of l.cells i ≡ queue_of l.fn.cells i;
  chains : length l.cells.chains ≡ length l.fn.cells.chains;
  room : l.cells.room ≡ l.fn.cells.room;
  size : l.size ≡ l.fn.c;
}
