-- A device that answers the reads of one slot with bytes of its own.
use Rattle.std.specs.Prelude.{ℕ, ◌&&◌, ◌==◌, List, length, slice_get, if◌then◌else◌, Option, Some}
use Rattle.esa_device.specs.Memory.{InMemory}

-- the blocks in memory, the slot, and its bytes
pub record Fixed : Type 0 where
  pub memory : InMemory
  pub slot : ℕ
  pub bytes : List ℕ

-- what a read of a slot gives into this many bytes
abbrev pub given_by : Fixed → ℕ → ℕ → Option (List ℕ)
given_by device slot n =
    if (slot == device.slot) && (length device.bytes == n)
    then Some device.bytes
    else slice_get device.memory.blocks slot
