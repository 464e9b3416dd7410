-- What a recorder keeps of the accesses that it makes.
use Rattle.std.specs.Prelude.{◌≡◌, ℕ, ◌≤◌, List, length, map, Option, Some, None}
use Rattle.esa_params.specs.Sizes.{Sizes}
use Rattle.esa_params.specs.Slots.{IsPlanned, number_of, block_length}
use Rattle.esa_params.specs.declared.slot.Access.{Access}
use Rattle.esa_params.specs.declared.slot.Op.{Op}
use Rattle.esa_params.specs.declared.slot.Slot.{Slot}
use Rattle.esa_device.specs.Logs.{Carried, IsBacked, last_given}

-- the device, the accesses that were made of it and what they carried, the plan that it is ready for, how many accesses
-- may still be made, and the bytes of the last read
pub record Recorded (V : Type 0) : Type 0 where
  pub device : V
  pub trace : List Access
  pub log : List Carried
  pub plan : Option Sizes
  pub room : ℕ
  pub last : List ℕ

-- the slot of an access
abbrev pub slot_of : Access → Slot
slot_of access = record { region = access.region; index = access.index }

-- the number of an access's slot in the plan
abbrev pub number_in : Option Sizes → Access → ℕ
number_in None access = 0
number_in (Some plan) access = number_of plan (slot_of access)

-- the access asks this of a slot of the plan, and has the length of its block, which this is
pub record IsOf (plan : Sizes) (op : Op) (access : Access) (n : ℕ) : Type 0 where
  pub asks : access.op ≡ op
  pub planned : IsPlanned plan (slot_of access)
  pub length : access.length ≡ block_length plan (slot_of access)
  pub whole : n ≡ access.length

-- there is a plan, and the access is one of its slots
abbrev pub Names : Op → Option Sizes → Access → ℕ → Type 0
Names op None access n = ⊥
Names op (Some plan) access n = IsOf plan op access n

-- the device is laid for the plan, and there is room for the longest of its blocks
abbrev pub IsReady : Option Sizes → Option Sizes → ℕ → Type 0
IsReady None laid room = Unit {0}
IsReady (Some plan) laid room = (laid ≡ Some plan) × ((slot : Slot) → IsPlanned plan slot → block_length plan slot ≤ room)

-- the device was called for the accesses of the trace and for nothing else, the log is of these accesses, and the bytes that
-- are kept are those that its last read gave
pub record IsKept (plan laid : Option Sizes) (calls : ℕ) (told : Option (List (List ℕ))) (trace : List Access) (log : List Carried) (last : List ℕ) (kept room : ℕ) : Type 0 where
  pub ready : IsReady plan laid room
  pub counted : calls ≡ length trace
  pub logged : map (λ (entry : Carried). entry.access) log ≡ trace
  pub backed : IsBacked plan told log
  pub gave : last ≡ last_given log
  pub fits : kept ≤ room
