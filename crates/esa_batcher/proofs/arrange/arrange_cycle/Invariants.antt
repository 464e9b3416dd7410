use Rattle.std.proofs.Common.{◌≡◌, ◌<◌, length}
use Rattle.std.specs.List.Sorted.{IsPermutation}
use Rattle.esa_batcher.specs.Arranging.{ArePlaces}
use Rattle.esa_batcher.proofs.arrange.arrange_cycle.Given as goal

-- the records are the same, and the keys name places of theirs
abbrev pub invariant-loop : goal.invariant-loop
invariant-loop g l = record {
  same : IsPermutation l.fn.records l.records;
  long : length l.records ≡ length l.fn.records;
  number : length l.keys ≡ length l.fn.records;
  inside : l.at < length l.fn.records;
  places : ArePlaces (length l.fn.records) l.keys;
}
