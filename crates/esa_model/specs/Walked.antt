-- The compression of an attempt, by numbers alone.
use Rattle.std.specs.Prelude.{◌≡◌, ℕ, ◌+◌, ◌*◌, ◌<◌, ◌≤◌, nat_lt, Bool, Option, List, length, map, slice_index, find}
use Rattle.esa_params.specs.Sizes.{Sizes, below}
use Rattle.esa_spec.specs.Draws.{Draw}
use Rattle.esa_spec.specs.Traces.{walk}
use Rattle.esa_spec.specs.Verdicts.{Step, step_verdict, first_bad, targets, reached}
use Rattle.esa_spec.specs.declared.event.Verdict.{Verdict}
use Rattle.esa_model.specs.Passed.{Passed, occurrences, waiting_at}
use Rattle.esa_model.specs.Recorded.{Recorded, with_accesses}
use Rattle.esa_model.specs.declared.compression.Window.{Window}

-- more waits for a target than a tail holds
abbrev pub is_over : Passed → ℕ → Bool
is_over passed i = nat_lt passed.p.k (waiting_at passed i)

-- the first such target
abbrev pub first_over : Passed → Option ℕ
first_over passed = find (is_over passed) (below passed.p.b)

-- the places of all buckets are counted, by target
abbrev pub HaveArrived : Sizes → Draw → List ℕ → Type 0
HaveArrived p d arrived = (i : ℕ) → i < p.b → slice_index arrived i ≡ occurrences i (targets p d)

-- as many places have come with the intermediate buckets that are imported as are reached
abbrev pub IsReached : Sizes → Draw → Window → Type 0
IsReached p d window = window.reached ≡ reached p d window.imported

-- the window's numbers are no larger than they can be
pub record IsWithin (p : Sizes) (window : Window) : Type 0 where
  pub imported : window.imported ≤ p.b
  pub reached : window.reached ≤ window.imported * 67108864

-- steps were made, up to the first that can't be done
pub record AreMade (p : Sizes) (d : Draw) (a : ℕ) (steps : List Step) (verdict : Verdict) (old new : Recorded) : Type 0 where
  pub ends : verdict ≡ first_bad (map (step_verdict p d) steps)
  pub traced : new ≡ with_accesses old (walk p d a steps)

-- up to so many accesses more are recorded
pub record Grows (old new : Recorded) (most : ℕ) : Type 0 where
  pub room : new.room ≡ old.room
  pub few : length new.accesses ≤ length old.accesses + most
