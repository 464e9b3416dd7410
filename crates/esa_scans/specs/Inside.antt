-- How tables hold it.
use Rattle.std.specs.Prelude.{◌≡◌, ◌≤◌, ◌*◌, ℕ, List, length}
use Rattle.esa_crowds.specs.Gathered.{Gathered}
use Rattle.esa_params.specs.Form.{inner_length}
use Rattle.esa_params.specs.Sizes.{Sizes}
use Rattle.esa_params.specs.Slots.{IsPlanned, block_length}
use Rattle.esa_params.specs.declared.slot.Slot.{Slot}
use Rattle.esa_scans.specs.Joined.{Joined}

-- there is room for all records, for each block and its text, and for what is forwarded
pub record AreTables (p : Sizes) (table : Gathered) (sealed plain : List ℕ) (sent : Joined) : Type 0 where
  pub form : table.form ≡ p.form
  pub records : table.room ≡ p.n
  pub blocks : (slot : Slot) → IsPlanned p slot → block_length p slot ≤ length sealed
  pub texts : (slot : Slot) → IsPlanned p slot → block_length p slot ≤ length plain
  pub room : sent.room ≡ p.n * inner_length p.form
