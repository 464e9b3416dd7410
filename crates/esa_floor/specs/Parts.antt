-- What contracts see of a floor, and how its calls change it.
use Rattle.std.specs.Prelude.{ℕ, ◌+◌, ◌*◌, List, [], ◌∷◌, ◌++◌, replicate, slice_index, Option, Some, None}
use Rattle.esa_device.specs.Recording.{Recorded}
use Rattle.esa_envelope.specs.declared.keys.Keys.{Keys}
use Rattle.esa_params.specs.Sizes.{Sizes}
use Rattle.esa_stash.specs.Stash.{Held, empty_stash}
use Rattle.esa_floor.specs.declared.turn.Outcome.{Outcome}
use Rattle.esa_floor.specs.declared.turn.Stop.{Stop}

-- how often a round was begun, up to the number of buckets, and how many chunks were written, in the attempt at work
pub record Counted : Type 0 where
  pub claims : ℕ
  pub writes : ℕ

-- the parts of a floor
pub record Parts (V : Type 0) : Type 0 where
  pub plan : Sizes
  pub outer : Keys
  pub run : Keys
  pub recorder : Recorded V
  -- the device's count of faults when the floor was made
  pub faults : ℕ
  -- every turn, and the owner's entries, and how many entries there is room for
  pub history : List ℕ
  pub room : ℕ
  -- the queues of the stash, and how many items the chunk of each bucket and target has
  pub stash : Held
  pub counts : List ℕ
  pub counted : Counted
  -- the attempt at work, why its turns have stopped, and how the run ended
  pub attempt : Option ℕ
  pub stop : Option Stop
  pub outcome : Option Outcome

-- the count of the chunk of bucket j for the target i, where the counts of each bucket's chunks stand together
abbrev pub count_at : ℕ → List ℕ → ℕ → ℕ → ℕ
count_at b counts j i = slice_index counts (j * b + i)

-- a count of 0 for each chunk
abbrev pub no_counts : ℕ → List ℕ
no_counts b = replicate (b * b) 0

-- nothing was counted
abbrev pub nothing_counted : Counted
nothing_counted = record { claims = 0; writes = 0 }

-- with one entry more
abbrev pub with_entry : {V : Type 0} → Parts V → ℕ → Parts V
with_entry f entry = record f { history = f.history ++ entry ∷ [] }

-- an attempt is begun: the owner's entry is added, and the stash, the counts and the stop of the attempt before are gone
abbrev pub begun_as : {V : Type 0} → Parts V → ℕ → Parts V
begun_as f attempt = record f {
  history = f.history ++ f.plan.workers ∷ [];
  stash = empty_stash f.plan.b f.plan.c f.plan.s;
  counts = no_counts f.plan.b;
  counted = nothing_counted;
  attempt = Some attempt;
  stop = None;
}

-- the run is ended: the owner's entry is added, and the outcome is kept
abbrev pub ended_as : {V : Type 0} → Parts V → Outcome → Parts V
ended_as f outcome = record f { history = f.history ++ f.plan.workers ∷ []; attempt = None; outcome = Some outcome }
