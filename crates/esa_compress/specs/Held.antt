-- What enters a window: the items that aren't dummies, in the order in which they are arranged.
use Rattle.std.specs.Prelude.{ℕ, Bool, true, false, if◌then◌else◌, Option, Some, None, List, filter_map, count_by, slice_get}
use Rattle.std.specs.Option.{option_and_then}
use Rattle.esa_report.specs.declared.item.Item.{Item}
use Rattle.esa_report.specs.declared.item.Kind.{Kind}
use Rattle.esa_report.specs.declared.item.Kind.TheVariants.{Dummy, Real, Malformed}

-- items of this kind stand for records
abbrev pub is_kind_held : Kind → Bool
is_kind_held Dummy = false
is_kind_held Real = true
is_kind_held Malformed = true

-- the item is no dummy
abbrev pub is_held : Item → Bool
is_held item = is_kind_held item.kind

-- the item, where it is no dummy
abbrev pub kept : Item → Option Item
kept item = if is_held item then Some item else None

-- the item at an index, where it is no dummy
abbrev pub kept_at : List Item → ℕ → Option Item
kept_at items index = option_and_then kept (slice_get items index)

-- items arranged by an order and freed of dummies: one after another, the items whose indexes the order has
abbrev pub held_in : List Item → List ℕ → List Item
held_in items order = filter_map (kept_at items) order

-- how many items are no dummies
abbrev pub held_count : List Item → ℕ
held_count items = count_by is_held items
