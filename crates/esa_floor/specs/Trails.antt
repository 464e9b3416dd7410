-- The log of a floor as texts, to which texts are only added, and what a floor keeps between two holders.
use Rattle.std.specs.Prelude.{◌≡◌, ℕ, List, [], ◌∷◌, map, Option, Some, None}
use Rattle.esa_device.specs.Logs.{Carried}
use Rattle.esa_params.specs.Sizes.{Sizes}
use Rattle.esa_params.specs.Slots.{item_length}
use Rattle.esa_params.specs.declared.slot.Op.{Op}
use Rattle.esa_params.specs.declared.slot.Op.TheVariants.{Read, Write}
use Rattle.esa_params.specs.declared.slot.Region.{Region}
use Rattle.esa_params.specs.declared.slot.Region.TheVariants.{Input, Mid, Tail, Output}
use Rattle.esa_report.specs.declared.item.Item.{Item}
use Rattle.esa_spec.specs.Draws.{Draw}
use Rattle.esa_floor.specs.Keeping.{KeepsDone}
use Rattle.esa_floor.specs.Parts.{Parts}
use Rattle.esa_floor.specs.Standing.{Stands}
use Rattle.esa_floor.specs.Written.{AreItems, EachTookItsBlock, FailedAtItsEnd, GaveUpToItsEnd}

abbrev pub op_code : Op → ℕ
op_code Read = 0
op_code Write = 1

abbrev pub region_code : Region → ℕ
region_code Input = 0
region_code Mid = 1
region_code Tail = 2
region_code Output = 3

abbrev pub bytes_code : Option (List ℕ) → List ℕ
bytes_code None = []
bytes_code (Some bytes) = 1 ∷ bytes

-- an entry of a log, told as numbers: the fields of its access, and the bytes that it moved
abbrev pub entry_text : Carried → List ℕ
entry_text e = op_code e.access.op ∷ region_code e.access.region ∷ e.access.index ∷ e.access.length ∷ e.access.nonce ∷ e.access.attempt ∷ bytes_code e.bytes

-- the log of a floor, entry by entry
abbrev pub trail_of : {V : Type 0} → Parts V → List (List ℕ)
trail_of f = map entry_text f.recorder.log

-- the floor stands, its log has an entry for each access, and its queues and slots hold the records of the input by the turns
-- that are done. Each write took its block, and no access failed but the last one, where the turns have stopped or the run has
-- ended at it. So each read gave its block
pub record IsKept {V : Type 0} (faults : V → ℕ) (p : Sizes) (ds : ℕ → Draw) (f : Parts V) : Type 0 where
  pub stands : Stands faults p ds f
  pub logged : map (λ (entry : Carried). entry.access) f.recorder.log ≡ f.recorder.trace
  pub done : KeepsDone faults ds f
  pub took : (record_of : ℕ → Item) → AreItems (item_length p.form) record_of → EachTookItsBlock ds record_of f
  pub failed : FailedAtItsEnd f
  pub reads : GaveUpToItsEnd ds f
