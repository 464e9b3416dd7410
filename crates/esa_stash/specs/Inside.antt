-- The arena that an array of items and lists of cells stand for.
use Rattle.std.specs.Prelude.{◌≡◌, ℕ, ◌<◌, List, length, map, drop, slice_index_or}
use Rattle.esa_report.specs.declared.item.Item.{Item}
use Rattle.esa_report.specs.Item.{dummy_item}
use Rattle.esa_stash.specs.Links.{Lists, list_at}
use Rattle.esa_stash.specs.Arena.{Arena}

-- a cell, and the item in it
abbrev pub held_in : List Item → ℕ → ℕ × Item
held_in items cell = (cell, slice_index_or items cell dummy_item)

abbrev pub all_held : List Item → List ℕ → List (ℕ × Item)
all_held items cells = map (held_in items) cells

-- list 0 has the free cells, and list i + 1 those of chain i
abbrev pub arena_of : Lists → List Item → Arena
arena_of links items = record {
  room = links.room;
  free = list_at links.lists 0;
  chains = map (all_held items) (drop 1 links.lists);
}

-- an item for each cell, and a list of the free ones
pub record AreCells (links : Lists) (items : List Item) : Type 0 where
  pub room : length items ≡ links.room
  pub free : 0 < length links.lists
