use Rattle.std.proofs.Common.{◌≡◌, ◌<◌, ◌++◌, length, take, drop}
use Rattle.esa_stash.specs.Stash.{padded}
use Rattle.esa_stash.specs.Dealing.{ChangesQueue, queue_of}
use Rattle.esa_stash.proofs.dealing.draw.Given as goal

abbrev pub invariant-loop-place : goal.invariant-loop-place
invariant-loop-place l =
    let line = queue_of l.fn.cells l.chain in
    record {
      inside : l.chain < length l.fn.cells.chains;
      out : l.out ≡ padded l.place-index (take l.place-index line) ++ drop l.place-index l.fn.out;
      queue : ChangesQueue l.fn.cells l.cells l.chain (drop l.place-index line);
      count : l.count ≡ length (take (length l.fn.out) line);
    }
