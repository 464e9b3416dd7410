-- The items of an import, where each place has the item of its record.
use Rattle.std.specs.Prelude.{ℕ, ◌+◌, List, ◌++◌, length, map, flat_map, sum_by}
use Rattle.esa_params.specs.Sizes.{Sizes, below}
use Rattle.esa_report.specs.declared.item.Item.{Item}
use Rattle.esa_spec.specs.Draws.{Draw}
use Rattle.esa_spec.specs.Lines.{backlog, chunk, tail}
use Rattle.esa_spec.specs.Places.{exchange_of}
use Rattle.esa_stash.specs.Stash.{padded}

-- the items of a block with these places: those of their records, and dummies up to n
abbrev pub items_of : (ℕ → Item) → ℕ → List ℕ → List Item
items_of record_of n places = padded n (map record_of places)

-- the items of the chunk of bucket j for the target i
abbrev pub chunk_items : (ℕ → Item) → Sizes → Draw → List ℕ → ℕ → ℕ → List Item
chunk_items record_of p d o i j = items_of record_of p.c (chunk p d o (exchange_of o j) i)

-- the items that are imported for the target i: those of its chunks by the number of their bucket, and of its tail
abbrev pub import_items : (ℕ → Item) → Sizes → Draw → List ℕ → ℕ → List Item
import_items record_of p d o i = flat_map (chunk_items record_of p d o i) (below p.b) ++ items_of record_of p.k (tail p d o i)

-- how many places the chunks and the tail of the target i have together
abbrev pub parts_of : Sizes → Draw → List ℕ → ℕ → ℕ
parts_of p d o i = sum_by (λ j. length (chunk p d o (exchange_of o j) i)) (below p.b) + backlog p d o p.b i
