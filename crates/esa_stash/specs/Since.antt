-- A stash by all that was handed to it since it was empty, exchange after exchange.
use Rattle.std.specs.Prelude.{◌≡◌, ℕ, suc, ◌<◌, List, [], ◌∷◌, ◌++◌, length, map, flat_map, sum_by}
use Rattle.esa_spec.specs.Queue.{waiting, leaving, queue}
use Rattle.esa_report.specs.declared.item.Item.{Item}
use Rattle.esa_stash.specs.Stash.{Held, Handed, coming, queue_at, targets_of, padded}

-- what came for a target, as a batch for each exchange
abbrev pub batches : List Handed → ℕ → List (List Item)
batches all i = map (λ handed. coming handed i) all

-- a target's tail: what waits of these batches, where up to c leave with each
abbrev pub tail : ℕ → List Handed → ℕ → List Item
tail c all i = queue c (batches all i) (length all)

-- how many that is
abbrev pub tail_length : ℕ → List Handed → ℕ → ℕ
tail_length c all i = waiting c (batches all i) (length all)

-- the queue of a target is its tail
abbrev pub HasTail : List Handed → Held → ℕ → Type 0
HasTail all held i = queue_at held i ≡ tail held.c all i

-- the same of each target
abbrev pub IsSince : List Handed → Held → Type 0
IsSince all held = (i : ℕ) → i < length held.queues → HasTail all held i

-- the chunk of a target in the last exchange
abbrev pub last_chunk : ℕ → List Handed → Handed → ℕ → List Item
last_chunk c all last i = padded c (leaving c (batches (all ++ last ∷ []) i) (length all))

abbrev pub last_chunks : Held → List Handed → Handed → List Item
last_chunks held all last = flat_map (last_chunk held.c all last) (targets_of held)

-- how many wait for a target after it
abbrev pub backlog : ℕ → List Handed → Handed → ℕ → ℕ
backlog c all last i = waiting c (batches (all ++ last ∷ []) i) (suc (length all))

-- and for all targets together
abbrev pub total_backlog : Held → List Handed → Handed → ℕ
total_backlog held all last = sum_by (backlog held.c all last) (targets_of held)

-- how many items the chunk of a target has in the last exchange
abbrev pub last_count : ℕ → List Handed → Handed → ℕ → ℕ
last_count c all last i = length (leaving c (batches (all ++ last ∷ []) i) (length all))

abbrev pub last_counts : Held → List Handed → Handed → List ℕ
last_counts held all last = map (last_count held.c all last) (targets_of held)
