-- What the blocks of the output were sealed with.
use Rattle.std.specs.Prelude.{◌≡◌, ℕ, ◌<◌, All, List, length}
use Rattle.esa_device.specs.Logs.{Carried, Took}
use Rattle.esa_envelope.specs.declared.keys.Keys.{Keys}
use Rattle.esa_params.specs.Sizes.{Sizes, size}
use Rattle.esa_params.specs.Slots.{at, item_length, number_of}
use Rattle.esa_params.specs.declared.slot.Region.TheVariants.{Output}
use Rattle.esa_report.specs.declared.item.Item.{Item}
use Rattle.esa_vault.specs.Filled.{text_of}
use Rattle.esa_vault.specs.Placed.{IsHeld, IsSpelled}
use Rattle.esa_vault.specs.Seals.{sealed_block}

-- the latest write of a block of the output took the seal of these items, as many as it has places
pub record IsSealed (p : Sizes) (keys : Keys) (attempt j : ℕ) (items : List Item) (log : List Carried) : Type 0 where
  pub spelled : All (IsSpelled (item_length p.form)) items
  pub whole : length items ≡ size p j
  pub took : Took p (number_of p (at Output j)) (sealed_block p keys (at Output j) attempt (text_of (item_length p.form) items)) log

-- so it is with each block
abbrev pub AreSealed : Sizes → Keys → ℕ → (ℕ → List Item) → List Carried → Type 0
AreSealed p keys attempt records log = (j : ℕ) → j < p.b → IsSealed p keys attempt j (records j) log

-- no block has a dummy among them
abbrev pub AreHeld : Sizes → (ℕ → List Item) → Type 0
AreHeld p records = (j : ℕ) → j < p.b → All IsHeld (records j)
