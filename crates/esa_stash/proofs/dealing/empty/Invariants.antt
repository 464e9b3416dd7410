use Rattle.std.proofs.Common.{◌≡◌, ◌<◌, length, drop}
use Rattle.esa_stash.specs.Dealing.{ChangesQueue, queue_of}
use Rattle.esa_stash.proofs.dealing.empty.Given as goal

abbrev pub invariant-loop-taken : goal.invariant-loop-taken
invariant-loop-taken l = record {
  inside : l.chain < length l.fn.cells.chains;
  held : l.held ≡ length (queue_of l.fn.cells l.chain);
  queue : ChangesQueue l.fn.cells l.cells l.chain (drop l._taken (queue_of l.fn.cells l.chain));
}
