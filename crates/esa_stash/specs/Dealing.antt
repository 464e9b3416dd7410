-- An exchange at work: what stands in the queues, the chunks and the counts once each target's line is dealt out.
use Rattle.std.specs.Prelude.{◌≡◌, ℕ, ◌+◌, ◌-◌, ◌*◌, ◌<◌, ◌==◌, List, [], ◌∷◌, ◌++◌, length, take, drop, if◌then◌else◌, slice_index, slice_index_or, slice_set, slice_range}
use Rattle.esa_report.specs.declared.item.Item.{Item}
use Rattle.esa_spec.specs.Draws.{chosen}
use Rattle.esa_stash.specs.Links.{occurrences}
use Rattle.esa_stash.specs.Arena.{Arena, queues_of, chain_at}
use Rattle.esa_stash.specs.Stash.{padded}

-- the items of a chain, in order
abbrev pub queue_of : Arena → ℕ → List Item
queue_of arena i = slice_index_or (queues_of arena) i []

-- one queue has become another, and nothing else has changed
pub record ChangesQueue (old new : Arena) (i : ℕ) (items : List Item) : Type 0 where
  pub queues : queues_of new ≡ slice_set (queues_of old) i items
  pub room : new.room ≡ old.room

-- the i-th of chunks of c items
abbrev pub chunk_at : ℕ → List Item → ℕ → List Item
chunk_at c chunks i = slice_range chunks (i * c) (i * c + c)

-- of a target's line the first c are its chunk, padded and counted, and the rest is its queue
pub record IsDealt (c : ℕ) (line : List Item) (arena : Arena) (chunks : List Item) (counts : List ℕ) (i : ℕ) : Type 0 where
  pub queue : queue_of arena i ≡ drop c line
  pub chunk : chunk_at c chunks i ≡ padded c (take c line)
  pub count : slice_index counts i ≡ length (take c line)

-- the line of each target below b is dealt out
abbrev pub AreDealt : ℕ → ℕ → (ℕ → List Item) → Arena → List Item → List ℕ → Type 0
AreDealt b c line arena chunks counts = (i : ℕ) → i < b → IsDealt c (line i) arena chunks counts i

-- lines with an item behind one of them
abbrev pub with_item : (ℕ → List Item) → ℕ → Item → ℕ → List Item
with_item line target item i = if i == target then line i ++ item ∷ [] else line i

-- how often each target comes
abbrev pub arrivals : List ℕ → ℕ → ℕ
arrivals targets i = occurrences i targets

-- the line of a target once so many items came: its queue, and the items behind it
abbrev pub line_after : Arena → List ℕ → List Item → ℕ → List Item
line_after arena targets items i = queue_of arena i ++ chosen i targets items

-- how many of a target's line stay, by the lengths alone
abbrev pub left_after : Arena → ℕ → List ℕ → ℕ → ℕ
left_after arena c arriving i = (length (chain_at arena i) + slice_index arriving i) - c

-- how many of it stay, by its items
abbrev pub left_of : ℕ → (ℕ → List Item) → ℕ → ℕ
left_of c line i = length (drop c (line i))
