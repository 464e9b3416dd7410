use Rattle.std.proofs.Common.{◌≡◌, ◌≤◌, length}
use Rattle.std.specs.Option.{option_map}
use Rattle.esa_analyser.specs.Reading.{RowsInside}
use Rattle.esa_analyser.proofs.RowReading.{Reads}
use Rattle.esa_analyser.proofs.db.read_rows.Given as goal

abbrev pub invariant-loop-row : goal.invariant-loop-row
invariant-loop-row l = record {
  place : l.start ≤ length l.bytes;
  number : length l.starts.items ≡ l.row;
  inside : RowsInside l.bytes l.starts.items;
  read : Reads l.longest l.bytes l.number l.starts.items l.row (option_map (λ value. value.now) l.before) l.start;
}
