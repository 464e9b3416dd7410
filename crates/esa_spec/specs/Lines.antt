-- The lines of an attempt: for each target the places that have it, in the order o in which the buckets are exchanged.
-- Each line goes through a queue of the stash, from which a chunk of up to C places leaves with each bucket. Exchanges
-- are numbered from 0.
use Rattle.std.specs.Prelude.{ℕ, suc, Bool, nat_lt, List, map, sum_by}
use Rattle.esa_params.specs.Sizes.{Sizes, below, places_of}
use Rattle.esa_spec.specs.Draws.{Draw, chosen}
use Rattle.esa_spec.specs.Queue.{joined, arrived, waiting, departed, leaving, queue}

-- the places of bucket j that have the target i
abbrev pub chosen_places : Sizes → Draw → ℕ → ℕ → List ℕ
chosen_places p d i j = chosen i (d.targets j) (places_of p j)

-- the places that have the target i, as a batch for each exchanged bucket
abbrev pub batches : Sizes → Draw → List ℕ → ℕ → List (List ℕ)
batches p d o i = map (chosen_places p d i) o

-- the places that have the target i, bucket after bucket in the order of the exchanges
abbrev pub line : Sizes → Draw → List ℕ → ℕ → List ℕ
line p d o i = joined (batches p d o i)

-- how many of them lie in the first k exchanged buckets
abbrev pub arrivals : Sizes → Draw → List ℕ → ℕ → ℕ → ℕ
arrivals p d o k i = arrived (batches p d o i) k

-- how many wait for the target i after k exchanges, where up to C leave with each
abbrev pub backlog : Sizes → Draw → List ℕ → ℕ → ℕ → ℕ
backlog p d o k i = waiting p.c (batches p d o i) k

-- how many have left for the target i after k exchanges
abbrev pub gone : Sizes → Draw → List ℕ → ℕ → ℕ → ℕ
gone p d o k i = departed p.c (batches p d o i) k

-- the places of the chunk that exchange k writes for the target i
abbrev pub chunk : Sizes → Draw → List ℕ → ℕ → ℕ → List ℕ
chunk p d o k i = leaving p.c (batches p d o i) k

-- the places that wait for the target i after k exchanges
abbrev pub queued : Sizes → Draw → List ℕ → ℕ → ℕ → List ℕ
queued p d o k i = queue p.c (batches p d o i) k

-- how many wait for all targets together after k exchanges
abbrev pub stashed : Sizes → Draw → List ℕ → ℕ → ℕ
stashed p d o k = sum_by (backlog p d o k) (below p.b)

-- more wait after exchange k than the stash holds
abbrev pub overflows : Sizes → Draw → List ℕ → ℕ → Bool
overflows p d o k = nat_lt p.s (stashed p d o (suc k))

-- the places of the tail of the target i: what still waits when each bucket was exchanged
abbrev pub tail : Sizes → Draw → List ℕ → ℕ → List ℕ
tail p d o i = queued p d o p.b i
