use Rattle.std.proofs.Common.{◌≡◌, ℕ, List, [], length}
use Rattle.esa_crowds.specs.Entries.{entries}
use Rattle.esa_hmac.specs.Mac.{StandsFor}
use Rattle.esa_params.specs.Sizes.{first}
use Rattle.esa_scans.specs.Scans.{HasRead, items_from}
use Rattle.esa_scans.proofs.scan.gather.Given as goal

-- the blocks before this one were read, and their items looked at
abbrev pub invariant-loop-bucket : goal.invariant-loop-bucket
invariant-loop-bucket g l = record {
  read : (given : List (List ℕ)) × (length given ≡ l.bucket)
      × HasRead g.V.Device.told g.V.Device.faults l.plan l.keys l.attempt given l.fn.recorder l.recorder
      × ((key : List ℕ) → StandsFor l.codes key [] → l.table.entries ≡ entries l.plan.form key (items_from l.plan l.keys l.attempt 0 given));
  next : l.table.next ≡ first l.plan l.bucket;
  form : l.table.form ≡ l.fn.table.form;
  records : l.table.room ≡ l.fn.table.room;
  sealed : length l.sealed ≡ length l.fn.sealed;
  plain : length l.plain ≡ length l.fn.plain;
}
