-- The items before this one are opened.
use Rattle.std.proofs.Common.{◌≡◌, map, take}
use Rattle.esa_params.specs.Sizes.{below}
use Rattle.esa_params.specs.Slots.{item_length}
use Rattle.esa_press.specs.Records.{item_there}
use Rattle.esa_press.proofs.fetch.open_items.Given as goal

abbrev pub invariant-loop-place : goal.invariant-loop-place
invariant-loop-place l = take l.place l.items ≡ map (item_there (item_length l.form) l.text) (below l.place)
