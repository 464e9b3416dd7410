-- A device in memory.
use Rattle.std.specs.Prelude.{◌≡◌, ℕ, ◌&&◌, ◌==◌, nat_lt, List, [], ◌∷◌, length, map, bit_xor, slice_index, slice_set, if◌then◌else◌, Option, Some, None}
use Rattle.std.specs.declared.vec.Vec.{Vec}
use Rattle.esa_params.specs.Sizes.{Sizes, below}
use Rattle.esa_params.specs.Slots.{slots_of, length_at}
use Rattle.esa_device.specs.declared.counts.Counts.{Counts}
use Rattle.esa_device.specs.declared.memory.Flip.{Flip}

-- what the blocks hold, the plan that they are laid for, the calls that fail, the bits that flip, and what was counted
pub record InMemory : Type 0 where
  pub blocks : List (List ℕ)
  pub plan : Option Sizes
  pub fails : List ℕ
  pub flips : List Flip
  pub counts : Counts

-- what each block holds
abbrev pub contents : {Z : Type 0} → List (Vec ℕ Z) → List (List ℕ)
contents blocks = map (λ block. block.items) blocks

-- each slot of the plan has a block of its length
abbrev pub IsLaidOut : Option Sizes → List (List ℕ) → Type 0
IsLaidOut None blocks = Unit {0}
IsLaidOut (Some plan) blocks = map length blocks ≡ map (length_at plan) (below (slots_of plan))

-- the blocks are told where no bit flips
abbrev pub told_by : List Flip → List (List ℕ) → Option (List (List ℕ))
told_by [] blocks = Some blocks
told_by (flip ∷ flips) blocks = None

-- what an access gives of these bytes by one flip
abbrev pub flipped_by : Flip → ℕ → List ℕ → List ℕ
flipped_by flip access bytes =
    if (flip.access == access) && nat_lt flip.byte (length bytes)
    then slice_set bytes flip.byte (bit_xor (slice_index bytes flip.byte) flip.mask)
    else bytes

-- what an access gives of these bytes by all flips, one after another
abbrev pub flipped : List Flip → ℕ → List ℕ → List ℕ
flipped [] access bytes = bytes
flipped (flip ∷ flips) access bytes = flipped flips access (flipped_by flip access bytes)
