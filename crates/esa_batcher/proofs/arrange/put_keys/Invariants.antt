use Rattle.std.proofs.Common.{◌≡◌, ◌≤◌, length}
use Rattle.esa_batcher.specs.Arranging.{ArePlaces}
use Rattle.esa_batcher.proofs.arrange.put_keys.Given as goal

-- a key for each record so far, and room for the others
abbrev pub invariant-loop-place : goal.invariant-loop-place
invariant-loop-place g l = record {
  number : l.keys.len ≡ l.place;
  room : length l.records ≤ l.keys.cap;
  places : ArePlaces (length l.records) l.keys.items;
}
