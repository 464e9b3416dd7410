-- What a turn shows to its worker, and how many turns a worker may still have.
use Rattle.std.specs.Prelude.{◌≡◌, ◌≢◌, ℕ, ◌+◌, ◌-◌, ◌*◌, ◌<◌, ◌≤◌, ◌⊎◌, Bool, true, false, List, [], ◌∷◌, ◌++◌, length, slice_index}
use Rattle.esa_params.specs.Sizes.{Sizes}
use Rattle.esa_spec.specs.Histories.{begun, latest}
use Rattle.esa_spec.specs.Turns.{event_at, next}
use Rattle.esa_spec.specs.declared.event.Event.TheVariants.{Done}
use Rattle.esa_floor.specs.declared.turn.Turn.{Turn}
use Rattle.esa_floor.specs.declared.turn.Turn.TheVariants as turn

-- a worker had a turn that found no bucket left
pub record FoundNone (b : ℕ) (h : List ℕ) (number : ℕ) : Type 0 where
  pub place : ℕ
  pub inside : place < length h
  pub own : slice_index h place ≡ number
  pub done : event_at b h place ≡ Done

-- the entries and the mark are of a floor in no attempt
abbrev pub IsIdle : Sizes → List ℕ → ℕ → Type 0
IsIdle p seen mark = mark ≤ 8 * begun p.workers seen + 4

-- they are of a floor whose turns have stopped
abbrev pub HasStopped : Sizes → List ℕ → ℕ → Type 0
HasStopped p seen mark = 8 * begun p.workers seen + 6 ≤ mark

-- the last entry is a turn of an attempt at work, and did not find that no bucket is left
pub record GoesOn (p : Sizes) (seen : List ℕ) (mark number : ℕ) : Type 0 where
  pub at_work : 8 * begun p.workers seen + 5 ≤ mark
  pub some_begun : 1 ≤ begun p.workers seen
  pub planned : begun p.workers seen ≤ p.attempts
  pub before : List ℕ
  pub turns : latest p.workers seen ≡ before ++ number ∷ []
  pub found : next p.b before number ≢ Done

-- what the last turn of a worker leaves, by its answer: no bucket was left, or no attempt is at work; or the turns have
-- stopped. A worker has no other last turn
abbrev pub Leaves : Sizes → List ℕ → ℕ → ℕ → Turn → Type 0
Leaves p seen mark number turn.Done = FoundNone p.b (latest p.workers seen) number ⊎ IsIdle p seen mark
Leaves p seen mark number (turn.Stopped s) = HasStopped p seen mark
Leaves p seen mark number (turn.Claimed j) = ⊥
Leaves p seen mark number (turn.Read j) = ⊥
Leaves p seen mark number (turn.Exchanged j) = ⊥
Leaves p seen mark number (turn.Wrote j i) = ⊥
Leaves p seen mark number turn.Idle = ⊥

-- what any turn shows, by its answer
abbrev pub Shows : Sizes → List ℕ → ℕ → ℕ → Turn → Type 0
Shows p seen mark number turn.Done = Leaves p seen mark number turn.Done
Shows p seen mark number (turn.Stopped s) = Leaves p seen mark number (turn.Stopped s)
Shows p seen mark number (turn.Claimed j) = GoesOn p seen mark number
Shows p seen mark number (turn.Read j) = GoesOn p seen mark number
Shows p seen mark number (turn.Exchanged j) = GoesOn p seen mark number
Shows p seen mark number (turn.Wrote j i) = GoesOn p seen mark number
Shows p seen mark number turn.Idle = GoesOn p seen mark number

-- the most turns that a worker has in an attempt, up to one that finds no bucket
abbrev pub most_turns : Sizes → ℕ
most_turns p = p.b * (p.b + 3) + 1

-- how many attempts there may still be, with the one that was begun last
abbrev pub attempts_left : Sizes → List ℕ → ℕ
attempts_left p seen = p.attempts - (begun p.workers seen - 1)

-- a worker has no turn after this one
abbrev pub is_last : Turn → Bool
is_last turn.Done = true
is_last (turn.Stopped s) = true
is_last (turn.Claimed j) = false
is_last (turn.Read j) = false
is_last (turn.Exchanged j) = false
is_last (turn.Wrote j i) = false
is_last turn.Idle = false
