-- The envelopes before this one are opened.
use Rattle.std.proofs.Common.{◌≡◌, map, take}
use Rattle.esa_params.specs.Sizes.{below}
use Rattle.esa_floor.specs.Private.{item_opened}
use Rattle.esa_floor.proofs.private.open_all.Given as goal

abbrev pub invariant-loop-place : goal.invariant-loop-place
invariant-loop-place l = take l.place l.items ≡ map (item_opened l.keys l.size l.text) (below l.place)
