-- The order in which the records come out.
use Rattle.std.specs.Prelude.{ℕ, ◌+◌, ◌-◌, ◌==◌, Option, Some, None, unwrap_or, List, ◌++◌, length, drop, map, replicate, flat_map, filter_map, slice_get, slice_range}
use Rattle.std.specs.List.{position_or_len}
use Rattle.esa_params.specs.Sizes.{Sizes, first, below}
use Rattle.esa_spec.specs.Draws.{Draw}
use Rattle.esa_spec.specs.Lines.{chunk, tail}
use Rattle.esa_spec.specs.Turns.{order}

-- the number of the exchange of bucket j
abbrev pub exchange_of : List ℕ → ℕ → ℕ
exchange_of o j = position_or_len (λ x. x == j) o

-- places, and pads behind them up to n
abbrev pub padded : ℕ → List ℕ → List (Option ℕ)
padded n xs = map Some xs ++ replicate (n - length xs) None

-- the chunk of bucket j for the target i, padded
abbrev pub padded_chunk : Sizes → Draw → List ℕ → ℕ → ℕ → List (Option ℕ)
padded_chunk p d o i j = padded p.c (chunk p d o (exchange_of o j) i)

-- what is imported for the target i: its chunks by the number of their bucket, and its tail
abbrev pub imports : Sizes → Draw → List ℕ → ℕ → List (Option ℕ)
imports p d o i = flat_map (padded_chunk p d o i) (below p.b) ++ padded p.k (tail p d o i)

-- the place at an index, where there is one
abbrev pub entry : List (Option ℕ) → ℕ → Option ℕ
entry xs x = unwrap_or (slice_get xs x) None

-- the places of the target i as its order arranges them, without the pads
abbrev pub arranged : Sizes → Draw → List ℕ → ℕ → List ℕ
arranged p d o i = filter_map (entry (imports p d o i)) (d.order i)

-- the places of all records, in the order in which they come out
abbrev pub places : Sizes → Draw → List ℕ → List ℕ
places p d h = flat_map (arranged p d (order p.b h)) (below p.b)

-- the places in the window's queue where i intermediate buckets are imported and j output buckets are written
abbrev pub window : Sizes → Draw → List ℕ → ℕ → ℕ → List ℕ
window p d o j i = drop (first p j) (flat_map (arranged p d o) (below i))

-- the places of output bucket j
abbrev pub output_places : Sizes → Draw → List ℕ → ℕ → List ℕ
output_places p d h j = slice_range (places p d h) (first p j) (first p (j + 1))
