use Rattle.std.proofs.Common.{◌≡◌, ◌+◌, ◌-◌, ◌*◌, ◌≤◌, length, take}
use Rattle.esa_batcher.specs.Paging.{HasPassed}
use Rattle.esa_batcher.proofs.order.scan_order.Given as goal

abbrev pub invariant-loop-first : goal.invariant-loop-first
invariant-loop-first g l = record {
  within : l.first ≤ l.records.count - 1;
  kept : l.kept ≤ l.records.size;
  place : l.at + l.records.kept ≡ l.records.at + l.first * l.records.size + l.kept;
  told : g.K.Cabinet.told l.cabinet ≡ g.K.Cabinet.told l.fn.cabinet;
  faults : g.K.Cabinet.faults l.cabinet ≡ g.K.Cabinet.faults l.fn.cabinet;
  buffer : length l.buffer ≡ length l.fn.buffer;
  passed : HasPassed l.name (g.K.Cabinet.told l.fn.cabinet) l.records.at (g.K.Cabinet.heard l.fn.cabinet) (g.K.Cabinet.heard l.cabinet) l.records.size l.records.count (take l.records.kept l.fn.buffer) l.first l.at l.kept l.buffer;
}

abbrev pub decreases-loop-first : goal.decreases-loop-first
decreases-loop-first g l = l.records.count - l.first
