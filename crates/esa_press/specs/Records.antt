-- The items of a block: records in front, and dummies behind them.
use Rattle.std.specs.Prelude.{ℕ, ◌≤◌, List, ◌++◌, All, flat_map, length, unwrap_or}
use Rattle.esa_envelope.specs.declared.keys.Keys.{Keys}
use Rattle.esa_params.specs.Sizes.{Sizes, below}
use Rattle.esa_params.specs.Slots.{item_length}
use Rattle.esa_params.specs.declared.slot.Slot.{Slot}
use Rattle.esa_report.specs.declared.item.Item.{Item}
use Rattle.esa_report.specs.Item.{dummy_item, item_in}
use Rattle.esa_stash.specs.Stash.{padded}
use Rattle.esa_vault.specs.Filled.{bytes_at, text_of}
use Rattle.esa_vault.specs.Placed.{IsHeld, IsSpelled}
use Rattle.esa_vault.specs.Seals.{sealed_block}

-- the item whose bytes stand at a place of a text, or a dummy where they hold none
abbrev pub item_there : ℕ → List ℕ → ℕ → Item
item_there size text place = unwrap_or (item_in (bytes_at size text place)) dummy_item

-- what can stand in front of the dummies of a block of n items: no more than n, none a dummy, and bytes can spell each
pub record AreRecords (size n : ℕ) (records : List Item) : Type 0 where
  pub fit : length records ≤ n
  pub held : All IsHeld records
  pub spelled : All (IsSpelled size) records

-- the block of n items of records for a slot in an attempt
abbrev pub sealed_records : Sizes → Keys → Slot → ℕ → ℕ → List Item → List ℕ
sealed_records p keys slot attempt n records = sealed_block p keys slot attempt (text_of (item_length p.form) (padded n records))

-- the items of an import, where the chunks and the tail have these records: chunk after chunk and then the tail, each with
-- dummies behind its records
abbrev pub imported_items : Sizes → (ℕ → List Item) → List Item → List Item
imported_items p chunks tail = flat_map (λ j. padded p.c (chunks j)) (below p.b) ++ padded p.k tail
