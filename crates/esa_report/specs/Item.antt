-- The items of a block: a byte for the kind, and the body.
use Rattle.std.specs.Prelude.{◌≡◌, ℕ, ◌-◌, ◌==◌, Bool, true, ◌⊎◌, if◌then◌else◌, List, ◌∷◌, ◌++◌, length, take, drop, replicate, slice_index, Option, Some, None}
use Rattle.std.specs.Option.{option_map}
use Rattle.esa_report.specs.Zero.{is_zero}
use Rattle.esa_report.specs.declared.item.Item.{Item}
use Rattle.esa_report.specs.declared.item.Kind.{Kind}
use Rattle.esa_report.specs.declared.item.Kind.TheVariants.{Dummy, Real, Malformed}

-- the two lengths of an item
abbrev pub IsItemLength : ℕ → Type 0
IsItemLength size = (size ≡ 137) ⊎ (size ≡ 265)

-- the byte of a kind
abbrev pub kind_byte : Kind → ℕ
kind_byte Dummy = 0
kind_byte Real = 1
kind_byte Malformed = 2

-- an item's bytes, so many of them
abbrev pub item_bytes : ℕ → Item → List ℕ
item_bytes size item = kind_byte item.kind ∷ take (size - 1) item.body

-- a body up to its full length
abbrev pub full_body : List ℕ → List ℕ
full_body body = body ++ replicate (264 - length body) 0

-- the body of all items but the real ones
unfoldable pub zero_body : List ℕ
zero_body = replicate 264 0

abbrev pub dummy_item : Item
dummy_item = record { kind = Dummy; body = zero_body }

abbrev pub malformed_item : Item
malformed_item = record { kind = Malformed; body = zero_body }

-- only a real item has a body that isn't zero
abbrev pub is_body_of : Kind → List ℕ → Bool
is_body_of Real body = true
is_body_of Dummy body = is_zero body
is_body_of Malformed body = is_zero body

-- the same of an item
abbrev pub is_well_formed : Item → Bool
is_well_formed item = is_body_of item.kind item.body

-- the kind of a byte
abbrev pub kind_in : ℕ → Option Kind
kind_in byte =
    if byte == 0 then Some Dummy
    else if byte == 1 then Some Real
    else if byte == 2 then Some Malformed
    else None

-- the item of a kind and a body, where it is well formed
abbrev pub item_of : Option Kind → List ℕ → Option Item
item_of None body = None
item_of (Some kind) body =
    let item : Item = record { kind = kind; body = body } in if is_well_formed item then Some item else None

-- the item that bytes hold
unfoldable pub item_in : List ℕ → Option Item
item_in bytes = item_of (kind_in (slice_index bytes 0)) (full_body (drop 1 bytes))

-- the kind of the item that bytes hold
abbrev pub kind_held : List ℕ → Option Kind
kind_held bytes = option_map (λ (item : Item). item.kind) (item_in bytes)
