-- The workers of an attempt, by numbers alone: how many rounds were begun, and for each worker the phase of its next
-- turn and the bucket of the round in which it is.
use Rattle.std.specs.Prelude.{◌≡◌, ◌≢◌, ℕ, ◌+◌, ◌<◌, ◌==◌, if◌then◌else◌, List, length, replicate, slice_index, slice_set}
use Rattle.esa_spec.specs.Turns.{claims, next_phase, held, acted}
use Rattle.esa_spec.specs.declared.event.Event.{Event}
use Rattle.esa_spec.specs.declared.event.Event.TheVariants.{Claim, Read, Exchange, Write, Done, Idle}

pub record Seats : Type 0 where
  -- the number of buckets
  pub b : ℕ
  pub begun : ℕ
  pub phases : List ℕ
  pub buckets : List ℕ

abbrev pub phase_of : Seats → ℕ → ℕ
phase_of seats w = slice_index seats.phases w

abbrev pub bucket_of : Seats → ℕ → ℕ
bucket_of seats w = slice_index seats.buckets w

-- what the next turn of a worker does
abbrev pub event_of_next : Seats → ℕ → Event
event_of_next seats w = acted seats.b seats.begun (phase_of seats w) (bucket_of seats w)

-- the numbers of an event are those of buckets and targets
abbrev pub IsPlannedEvent : ℕ → Event → Type 0
IsPlannedEvent b (Claim bucket) = bucket < b
IsPlannedEvent b (Read bucket) = bucket < b
IsPlannedEvent b (Exchange bucket) = bucket < b
IsPlannedEvent b (Write bucket target) = (bucket < b) × (target < b)
IsPlannedEvent b Done = Unit {0}
IsPlannedEvent b Idle = Unit {0}

-- the phase that comes after one
abbrev pub phase_after : ℕ → ℕ → ℕ
phase_after b phase = if phase + 1 == b + 3 then 0 else phase + 1

-- the seats after a turn of a worker: a turn that begins a round takes the next bucket
abbrev pub with_turn : Seats → ℕ → Seats
with_turn seats w = record {
  b = seats.b;
  begun = (if phase_of seats w == 0 then seats.begun + 1 else seats.begun);
  phases = slice_set seats.phases w (phase_after seats.b (phase_of seats w));
  buckets = (if phase_of seats w == 0 then slice_set seats.buckets w seats.begun else seats.buckets);
}

-- no turn was made
abbrev pub none_seated : ℕ → ℕ → Seats
none_seated b workers = record { b = b; begun = 0; phases = replicate workers 0; buckets = replicate workers 0 }

-- a seat for each of so many workers, whose phases are those of a round
pub record AreSeats (workers : ℕ) (seats : Seats) : Type 0 where
  pub phase_each : length seats.phases ≡ workers
  pub bucket_each : length seats.buckets ≡ workers
  pub phases_below : (w : ℕ) → w < workers → phase_of seats w < seats.b + 3

-- the seats are those after a history
pub record AreSeatsAfter (b workers : ℕ) (h : List ℕ) (seats : Seats) : Type 0 where
  pub buckets : seats.b ≡ b
  pub begun : seats.begun ≡ claims b h
  pub phase : (w : ℕ) → w < workers → phase_of seats w ≡ next_phase b h w
  pub bucket : (w : ℕ) → w < workers → next_phase b h w ≢ 0 → bucket_of seats w ≡ held b h w
