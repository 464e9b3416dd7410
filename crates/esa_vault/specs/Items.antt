-- The item of an outer envelope.
use Rattle.std.specs.Prelude.{◌≡◌, ℕ, ◌⊎◌, List, Option, Some, None}
use Rattle.esa_envelope.specs.declared.keys.Keys.{Keys}
use Rattle.esa_envelope.specs.declared.label.Label.TheVariants.{Outer}
use Rattle.esa_envelope.specs.Envelope.{opened}
use Rattle.esa_report.specs.declared.item.Item.{Item}
use Rattle.esa_report.specs.declared.item.Kind.TheVariants.{Real}
use Rattle.esa_report.specs.Item.{full_body, malformed_item}

-- the two lengths of an outer envelope
abbrev pub IsEnvelopeLength : ℕ → Type 0
IsEnvelopeLength size = (size ≡ 176) ⊎ (size ≡ 304)

-- the item of what an envelope opened to: real with that text, or malformed
abbrev pub item_from : Option (List ℕ) → Item
item_from None = malformed_item
item_from (Some text) = record { kind = Real; body = full_body text }

-- the item of an envelope under the outer keys
abbrev pub item_of : Keys → List ℕ → Item
item_of outer envelope = item_from (opened outer Outer envelope)
