-- The turns of an attempt. A history is a list of worker numbers, one for each turn. A worker's turns go round and
-- round in B + 3 phases: it claims a bucket, reads it, exchanges it and writes its B chunks.
use Rattle.std.specs.Prelude.{ℕ, zero, suc, ◌+◌, ◌-◌, ◌%◌, Bool, true, false, ◌&&◌, ◌==◌, nat_lt, if◌then◌else◌, Option, Some, None, List, [], ◌∷◌, ◌++◌, length, take, map, filter_map, count_by, slice_index}
use Rattle.esa_params.specs.Sizes.{below}
use Rattle.esa_spec.specs.declared.event.Event.{Event}
use Rattle.esa_spec.specs.declared.event.Event.TheVariants.{Claim, Read, Exchange, Write, Done, Idle}

-- how many turns a worker had
abbrev pub turns_of : ℕ → List ℕ → ℕ
turns_of w h = count_by (λ v. v == w) h

-- how many turns the worker of turn x had before it
abbrev pub turns_before : List ℕ → ℕ → ℕ
turns_before h x = turns_of (slice_index h x) (take x h)

-- the phase of turn x
abbrev pub phase : ℕ → List ℕ → ℕ → ℕ
phase b h x = turns_before h x % (b + 3)

-- turn x begins a round
abbrev pub is_claim : ℕ → List ℕ → ℕ → Bool
is_claim b h x = phase b h x == 0

-- the greatest number up to x that passes, or 0
abbrev pub last_such : (ℕ → Bool) → ℕ → ℕ
last_such test zero = 0
last_such test (suc x) = if test (suc x) then suc x else last_such test x

-- turn y begins a round of the worker of turn x
abbrev pub is_own_claim : ℕ → List ℕ → ℕ → ℕ → Bool
is_own_claim b h x y = (slice_index h y == slice_index h x) && is_claim b h y

-- the turn that began the round of turn x
abbrev pub claim : ℕ → List ℕ → ℕ → ℕ
claim b h x = last_such (is_own_claim b h x) x

-- the bucket of that round: how many rounds were begun before it, by anybody
abbrev pub bucket : ℕ → List ℕ → ℕ → ℕ
bucket b h x = count_by (is_claim b h) (below (claim b h x))

-- what a turn does in a phase of the round of a bucket
abbrev pub event_of : ℕ → ℕ → ℕ → Event
event_of b bucket phase =
    if nat_lt bucket b
    then (if phase == 0 then Claim bucket else if phase == 1 then Read bucket else if phase == 2 then Exchange bucket else Write bucket (phase - 3))
    else (if phase == 0 then Done else Idle)

-- what turn x does
abbrev pub event_at : ℕ → List ℕ → ℕ → Event
event_at b h x = event_of b (bucket b h x) (phase b h x)

-- what the turns do, in turn
abbrev pub events : ℕ → List ℕ → List Event
events b h = map (event_at b h) (below (length h))

-- what a turn of worker w after h does
abbrev pub next : ℕ → List ℕ → ℕ → Event
next b h w = event_at b (h ++ w ∷ []) (length h)

-- the phase of the next turn of worker w
abbrev pub next_phase : ℕ → List ℕ → ℕ → ℕ
next_phase b h w = turns_of w h % (b + 3)

-- how many rounds were begun
abbrev pub claims : ℕ → List ℕ → ℕ
claims b h = count_by (is_claim b h) (below (length h))

-- the bucket of the round in which the next turn of worker w stands
abbrev pub held : ℕ → List ℕ → ℕ → ℕ
held b h w = bucket b (h ++ w ∷ []) (length h)

-- what a turn does, by the rounds begun so far and by the worker's phase and bucket
abbrev pub acted : ℕ → ℕ → ℕ → ℕ → Event
acted b claimed phase bucket = if phase == 0 then event_of b claimed 0 else event_of b bucket phase

-- the bucket that an event exchanges
abbrev pub exchanged : Event → Option ℕ
exchanged (Exchange j) = Some j
exchanged _ = None

-- the buckets in the order of their exchanges
abbrev pub order : ℕ → List ℕ → List ℕ
order b h = filter_map exchanged (events b h)

-- an event writes a chunk
abbrev pub is_write : Event → Bool
is_write (Write j i) = true
is_write _ = false

-- how many chunks were written
abbrev pub writes : ℕ → List ℕ → ℕ
writes b h = count_by is_write (events b h)

-- an event writes the chunk of bucket j for the target i
abbrev pub is_write_at : ℕ → ℕ → Event → Bool
is_write_at j i (Write bucket target) = bucket == j && target == i
is_write_at j i _ = false
