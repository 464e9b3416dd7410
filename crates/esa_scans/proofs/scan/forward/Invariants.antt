use Rattle.std.proofs.Common.{◌≡◌, ℕ, List, length}
use Rattle.std.specs.List.{concat}
use Rattle.esa_crowds.specs.Kept.{sent_from}
use Rattle.esa_scans.specs.Held.{is_marked}
use Rattle.esa_scans.specs.Scans.{HasRead, items_from}
use Rattle.esa_scans.proofs.scan.forward.Given as goal

-- the blocks before this one were read, and their items sent
abbrev pub invariant-loop-bucket : goal.invariant-loop-bucket
invariant-loop-bucket g l = record {
  read : (given : List (List ℕ)) × (length given ≡ l.bucket)
      × HasRead g.V.Device.told g.V.Device.faults l.plan l.keys l.attempt given l.fn.recorder l.recorder
      × (l.sent.bytes ≡ concat (sent_from l.plan.form (is_marked l.table.kept) 0 (items_from l.plan l.keys l.attempt 0 given)));
  room : l.sent.room ≡ l.fn.sent.room;
  sealed : length l.sealed ≡ length l.fn.sealed;
  plain : length l.plain ≡ length l.fn.plain;
}
