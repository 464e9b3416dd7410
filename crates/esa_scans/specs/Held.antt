-- The items of a text.
use Rattle.std.specs.Prelude.{ℕ, Bool, true, false, List, map, Option, Some, None, slice_index_or, unwrap_or}
use Rattle.esa_params.specs.Sizes.{below}
use Rattle.esa_report.specs.declared.item.Item.{Item}
use Rattle.esa_report.specs.declared.item.Kind.{Kind}
use Rattle.esa_report.specs.declared.item.Kind.TheVariants.{Dummy, Real, Malformed}
use Rattle.esa_report.specs.Item.{dummy_item, item_in}
use Rattle.esa_vault.specs.Filled.{bytes_at}

-- the kind is that of a real item
abbrev pub is_real : Kind → Bool
is_real Real = true
is_real Dummy = false
is_real Malformed = false

-- there is a kind, and it is that of a real item
abbrev pub is_real_in : Option Kind → Bool
is_real_in None = false
is_real_in (Some kind) = is_real kind

-- the item that bytes hold, or a dummy where they hold none
abbrev pub item_held : List ℕ → Item
item_held bytes = unwrap_or (item_in bytes) dummy_item

-- so many items of a text, of so many bytes each
abbrev pub items_in : ℕ → ℕ → List ℕ → List Item
items_in size count text = map (λ place. item_held (bytes_at size text place)) (below count)

-- a position is marked
abbrev pub is_marked : List Bool → ℕ → Bool
is_marked marks position = slice_index_or marks position false
