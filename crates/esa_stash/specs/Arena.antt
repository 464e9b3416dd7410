-- An arena: cells by number, each free or in one of some chains, and an item in each cell of a chain.
use Rattle.std.specs.Prelude.{ℕ, List, [], ◌∷◌, ◌++◌, map, take, drop, replicate, slice_index, slice_index_or, slice_set}
use Rattle.std.specs.List.{range_with_len}
use Rattle.esa_report.specs.declared.item.Item.{Item}
use Rattle.esa_stash.specs.Links.{IsPartition}

-- how many cells there are, the free ones, and the cells of each chain in order, each with its item
pub record Arena : Type 0 where
  pub room : ℕ
  pub free : List ℕ
  pub chains : List (List (ℕ × Item))

-- the cells of a chain, without their items
abbrev pub cells_in : List (ℕ × Item) → List ℕ
cells_in chain = map (λ held. held.0) chain

-- the items of a chain, without their cells
abbrev pub items_in : List (ℕ × Item) → List Item
items_in chain = map (λ held. held.1) chain

-- each cell stands once: among the free ones or in one chain
abbrev pub IsShared : Arena → Type 0
IsShared arena = IsPartition arena.room (arena.free ∷ map cells_in arena.chains)

-- the chain of this number
abbrev pub chain_at : Arena → ℕ → List (ℕ × Item)
chain_at arena i = slice_index_or arena.chains i []

-- the item of each chain's cells, one list for each chain
abbrev pub queues_of : Arena → List (List Item)
queues_of arena = map items_in arena.chains

-- all cells free, in rising order
abbrev pub empty_arena : ℕ → ℕ → Arena
empty_arena chains room = record { room = room; free = range_with_len 0 room; chains = replicate chains [] }

-- the first free cell goes behind a chain, with an item
abbrev pub pushed : Arena → ℕ → Item → Arena
pushed arena i item = record arena {
  free = drop 1 arena.free;
  chains = slice_set arena.chains i (chain_at arena i ++ (slice_index arena.free 0, item) ∷ []);
}

-- the first cell of a chain, if there is one, goes behind the free ones
abbrev pub popped : Arena → ℕ → Arena
popped arena i = record arena {
  free = arena.free ++ cells_in (take 1 (chain_at arena i));
  chains = slice_set arena.chains i (drop 1 (chain_at arena i));
}
