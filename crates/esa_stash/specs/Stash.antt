-- A stash: an arena with a queue of items for each target, and what an exchange makes of the queues.
--
-- In an exchange each new item goes behind its target's queue. Then up to c items leave each queue from the front, as
-- the target's chunk, which is padded at its end.
use Rattle.std.specs.Prelude.{ℕ, ◌-◌, List, [], ◌++◌, length, map, take, drop, replicate, flat_map, sum_by, slice_index_or, slice_set}
use Rattle.esa_params.specs.Sizes.{below}
use Rattle.esa_spec.specs.Draws.{chosen}
use Rattle.esa_report.specs.declared.item.Item.{Item}
use Rattle.esa_report.specs.Item.{dummy_item}
use Rattle.esa_stash.specs.Arena.{Arena, queues_of}

-- a stash: the items of a chunk, and the arena whose chains are the queues
pub record Stashed : Type 0 where
  pub c : ℕ
  pub cells : Arena

-- the items of a chunk, the items that are held at most, and the queue of each target
pub record Held : Type 0 where
  pub c : ℕ
  pub s : ℕ
  pub queues : List (List Item)

-- the same of a stash, whichever cells its items are in
abbrev pub contents : Stashed → Held
contents stash = record { c = stash.c; s = stash.cells.room; queues = queues_of stash.cells }

-- the targets, from 0 on
abbrev pub targets_of : Held → List ℕ
targets_of held = below (length held.queues)

-- the queue of a target
abbrev pub queue_at : Held → ℕ → List Item
queue_at held i = slice_index_or held.queues i []

-- nothing queued, for b targets
abbrev pub empty_stash : ℕ → ℕ → ℕ → Held
empty_stash b c s = record { c = c; s = s; queues = replicate b [] }

-- a target's queue emptied
abbrev pub without : Held → ℕ → Held
without held i = record held { queues = slice_set held.queues i [] }

-- n places: the items, then dummies
abbrev pub padded : ℕ → List Item → List Item
padded n items = items ++ replicate (n - length items) dummy_item

-- what is handed to an exchange: a target for each item, and the items
abbrev pub Handed : Type 0
Handed = List ℕ × List Item

-- the items that come for a target, in order
abbrev pub coming : Handed → ℕ → List Item
coming handed i = chosen i handed.0 handed.1

-- a target's queue with the new items behind it
abbrev pub line : Held → Handed → ℕ → List Item
line held handed i = queue_at held i ++ coming handed i

-- what leaves it, and what stays
abbrev pub chunk : Held → Handed → ℕ → List Item
chunk held handed i = take held.c (line held handed i)

abbrev pub rest : Held → Handed → ℕ → List Item
rest held handed i = drop held.c (line held handed i)

-- the same of each target
abbrev pub padded_chunk : Held → Handed → ℕ → List Item
padded_chunk held handed i = padded held.c (chunk held handed i)

abbrev pub chunks : Held → Handed → List Item
chunks held handed = flat_map (padded_chunk held handed) (targets_of held)

abbrev pub count : Held → Handed → ℕ → ℕ
count held handed i = length (chunk held handed i)

abbrev pub counts : Held → Handed → List ℕ
counts held handed = map (count held handed) (targets_of held)

abbrev pub exchanged : Held → Handed → Held
exchanged held handed = record held { queues = map (rest held handed) (targets_of held) }

-- how many items are queued for all targets together
abbrev pub total : Held → ℕ
total held = sum_by length held.queues
