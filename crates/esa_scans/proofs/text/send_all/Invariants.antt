use Rattle.std.proofs.Common.{◌≡◌, ◌++◌}
use Rattle.std.specs.List.{concat}
use Rattle.esa_crowds.specs.Kept.{sent_from}
use Rattle.esa_params.specs.Slots.{item_length}
use Rattle.esa_scans.specs.Held.{is_marked, items_in}
use Rattle.esa_scans.proofs.text.send_all.Given as goal

-- the items before this one were sent
abbrev pub invariant-loop-place : goal.invariant-loop-place
invariant-loop-place l = record {
  room : l.sent.room ≡ l.fn.sent.room;
  bytes : l.sent.bytes ≡ l.fn.sent.bytes ++ concat (sent_from l.fn.form (is_marked l.table.kept) l.first (items_in (item_length l.fn.form) l.place l.text));
}
