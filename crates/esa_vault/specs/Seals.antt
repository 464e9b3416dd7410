-- Sealed blocks: what is written for a slot, and when bytes open for it.
use Rattle.std.specs.Prelude.{ℕ, ◌==◌, Bool, true, false, if◌then◌else◌, Option, None, List}
use Rattle.std.specs.Option.{option_map_or}
use Rattle.esa_envelope.specs.declared.keys.Keys.{Keys}
use Rattle.esa_envelope.specs.declared.label.Label.TheVariants.{Block}
use Rattle.esa_envelope.specs.Envelope.{nonce_in, opened, sealed_as}
use Rattle.esa_params.specs.Sizes.{Sizes}
use Rattle.esa_params.specs.Slots.{item_length, nonce_of}
use Rattle.esa_params.specs.declared.slot.Region.{Region}
use Rattle.esa_params.specs.declared.slot.Region.TheVariants.{Input}
use Rattle.esa_params.specs.declared.slot.Slot.{Slot}
use Rattle.esa_vault.specs.Filled.{is_filled}

-- the block of a text for a slot in an attempt
abbrev pub sealed_block : Sizes → Keys → Slot → ℕ → List ℕ → List ℕ
sealed_block p keys slot attempt text = sealed_as keys Block (nonce_of p attempt slot) text

-- the text of bytes that carry the nonce of a slot in an attempt, where their tag agrees
unfoldable pub text_in : Sizes → Keys → Slot → ℕ → List ℕ → Option (List ℕ)
text_in p keys slot attempt bytes =
    if nonce_in bytes == nonce_of p attempt slot then opened keys Block bytes else None

-- a text that a block of the region can have, with so many items before its dummies: envelopes may be anything
abbrev pub is_text_of : Sizes → Region → ℕ → List ℕ → Bool
is_text_of p Input count text = true
is_text_of p _ count text = is_filled (item_length p.form) count text

-- the bytes open for a slot, an attempt and a count
abbrev pub opens : Sizes → Keys → Slot → ℕ → ℕ → List ℕ → Bool
opens p keys slot attempt count bytes =
    option_map_or (is_text_of p slot.region count) (text_in p keys slot attempt bytes) false
