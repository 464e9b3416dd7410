-- Blocks of the lengths of a plan, one of which is replaced.
use Rattle.std.proofs.Common.{◌≡◌, ℕ, ◌<◌, List, [], ◌∷◌, length, map, get_or, set, Some, None, Option, slice_get, refl, sym, ap, ◌∙◌, arith}
use Rattle.std.proofs.lemmas.List.{length-map, length-replicate, get_or-map}
use Rattle.std.proofs.lemmas.List.FromFn.{length-map-range_with_len, get_or-map-range_with_len}
use Rattle.std.proofs.Math.Seq.{map-set_same}
use Rattle.std.specs.Option.{option_map}
use Rattle.esa_params.specs.Sizes.{Sizes, below}
use Rattle.esa_params.specs.Slots.{slots_of, length_at}
use Rattle.esa_device.specs.Blocks.{HasBlock, zero_block, zero_blocks}
use Rattle.esa_device.specs.Memory.{IsLaidOut, told_by, flipped}
use Rattle.esa_device.specs.declared.memory.Flip.{Flip}

-- a slot of the plan has a block
pub within : (plan : Option Sizes) (blocks : List (List ℕ)) (slot n : ℕ) → IsLaidOut plan blocks → HasBlock plan slot n → slot < length blocks
within None blocks slot n out has = absurd has
within (Some plan) blocks slot n out has =
    let count : length blocks ≡ slots_of plan = sym (length-map blocks length) ∙ ap length out ∙ length-map-range_with_len (length_at plan) 0 (slots_of plan) in
    omega (arith, count, has.0)

-- which has the slot's length
pub fits : (plan : Option Sizes) (blocks : List (List ℕ)) (slot n : ℕ) (d : List ℕ) → IsLaidOut plan blocks → HasBlock plan slot n → length (get_or blocks slot d) ≡ n
fits None blocks slot n d out has = absurd has
fits (Some plan) blocks slot n d out has =
    sym (get_or-map length blocks slot d 0 (within (Some plan) blocks slot n out has))
    ∙ ap (λ lengths. get_or lengths slot 0) out
    ∙ get_or-map-range_with_len (length_at plan) 0 (slots_of plan) slot slot 0 has.0 (omega arith)
    ∙ sym has.1

-- bytes of its length take its place
pub replaced : (plan : Option Sizes) (blocks : List (List ℕ)) (slot : ℕ) (bytes : List ℕ) → IsLaidOut plan blocks → HasBlock plan slot (length bytes) → IsLaidOut plan (set blocks slot bytes)
replaced None blocks slot bytes out has = tt
replaced (Some plan) blocks slot bytes out has = map-set_same length blocks slot bytes [] (sym (fits (Some plan) blocks slot (length bytes) [] out has)) ∙ out

lengths : (plan : Sizes) (slots : List ℕ) → map (length {A = ℕ}) (map (λ slot. zero_block (length_at plan slot)) slots) ≡ map (length_at plan) slots
lengths plan [] = refl
lengths plan (slot ∷ slots) =
    ap (λ n. n ∷ map (length {A = ℕ}) (map (λ slot. zero_block (length_at plan slot)) slots)) (length-replicate (length_at plan slot) 0)
    ∙ ap (λ rest. length_at plan slot ∷ rest) (lengths plan slots)

-- blocks of zero bytes have the plan's lengths
pub zero-laid_out : (plan : Sizes) → IsLaidOut (Some plan) (zero_blocks plan)
zero-laid_out plan = lengths plan (below (slots_of plan))

-- what is told are the blocks
pub told_is : (flips : List Flip) (blocks told : List (List ℕ)) → told_by flips blocks ≡ Some told → told ≡ blocks
told_is [] blocks told is = cc is
told_is (flip ∷ flips) blocks told is = cc is

unflipped : (block : Option (List ℕ)) (access : ℕ) (out : List ℕ) → Some out ≡ option_map (flipped [] access) block → block ≡ Some out
unflipped None access out is = cc is
unflipped (Some block) access out is = sym is

-- and they are what is read
pub told_read : (flips : List Flip) (blocks told : List (List ℕ)) (access slot : ℕ) (out : List ℕ) → Some out ≡ option_map (flipped flips access) (slice_get blocks slot) → told_by flips blocks ≡ Some told → slice_get told slot ≡ Some out
told_read [] blocks told access slot out is tells = ap (λ blocks. slice_get blocks slot) (told_is [] blocks told tells) ∙ unflipped (slice_get blocks slot) access out is
told_read (flip ∷ flips) blocks told access slot out is tells = cc tells
