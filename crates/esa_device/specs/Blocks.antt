-- The blocks of an external memory, by the numbers of their slots.
use Rattle.std.specs.Prelude.{◌≡◌, ℕ, ◌<◌, List, map, replicate, slice_set, Option, Some, None}
use Rattle.esa_params.specs.Sizes.{Sizes, below}
use Rattle.esa_params.specs.Slots.{slots_of, length_at}

-- the memory is laid for a plan that has this slot, with a block of this length
abbrev pub HasBlock : Option Sizes → ℕ → ℕ → Type 0
HasBlock None slot length = ⊥
HasBlock (Some plan) slot length = (slot < slots_of plan) × (length ≡ length_at plan slot)

-- a block of zero bytes
abbrev pub zero_block : ℕ → List ℕ
zero_block length = replicate length 0

-- a block of zero bytes for each slot of a plan
abbrev pub zero_blocks : Sizes → List (List ℕ)
zero_blocks plan = map (λ slot. zero_block (length_at plan slot)) (below (slots_of plan))

-- the told blocks are those from before, but for the one of this slot
abbrev pub ChangesBlock : List (List ℕ) → ℕ → Option (List (List ℕ)) → Type 0
ChangesBlock blocks slot now = (held : List ℕ) × (now ≡ Some (slice_set blocks slot held))
