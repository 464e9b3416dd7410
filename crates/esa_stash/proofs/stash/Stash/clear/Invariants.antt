use Rattle.std.proofs.Common.{◌≡◌, ℕ, ◌<◌, [], length}
use Rattle.esa_stash.specs.Dealing.{queue_of}
use Rattle.esa_stash.specs.Stash.{contents}
use Rattle.esa_stash.proofs.stash.Stash.clear.Given as goal

abbrev pub invariant-loop-target : goal.invariant-loop-target
invariant-loop-target l = record {
  cleared : (i : ℕ) → i < l.target → queue_of l.self-inside.cells i ≡ [];
  chains : length l.self-inside.cells.chains ≡ l.self-inside.targets;
  targets : length (contents l.fn.self).queues ≡ l.self-inside.targets;
  room : l.self-inside.cells.room ≡ l.fn.self.cells.room;
  chunk : l.self-inside.chunk ≡ l.fn.self.c;
  arriving : length l.self-inside.arriving.items ≡ l.self-inside.targets;
}
