use Rattle.std.proofs.Common.{◌≡◌, ◌+◌, ◌++◌, ℕ, List, []}
use Rattle.esa_crowds.specs.Entries.{entries_from}
use Rattle.esa_hmac.specs.Mac.{StandsFor}
use Rattle.esa_params.specs.Slots.{item_length}
use Rattle.esa_scans.specs.Held.{items_in}
use Rattle.esa_scans.proofs.text.look_all.Given as goal

-- the items before this one were looked at
abbrev pub invariant-loop-place : goal.invariant-loop-place
invariant-loop-place l = record {
  others : l.table ≡ record l.fn.table { next = l.fn.table.next + l.place; entries = l.table.entries };
  entries : (key : List ℕ) → StandsFor l.codes key [] → l.table.entries ≡ l.fn.table.entries ++ entries_from l.fn.form key l.fn.table.next (items_in (item_length l.fn.form) l.place l.text);
}
