-- The buffers so far.
use Rattle.std.proofs.Common.{◌≡◌}
use Rattle.std.specs.Prelude.{replicate}
use Rattle.esa_floor.specs.Private.{blocks_in}
use Rattle.esa_floor.proofs.buffers.rooms.Given as goal

abbrev pub invariant-loop-room : goal.invariant-loop-room
invariant-loop-room l = blocks_in l.rooms.items ≡ replicate l._room (replicate l.length 0)
