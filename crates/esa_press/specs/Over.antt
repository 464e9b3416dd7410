-- A floor whose chunks are all written, and how the rest of its attempt ends.
use Rattle.std.specs.Prelude.{◌≡◌, ℕ, ◌*◌, ◌<◌, true, List, length, Some, None}
use Rattle.esa_floor.specs.Ends.{HasMade, IsOver}
use Rattle.esa_floor.specs.Parts.{Parts}
use Rattle.esa_floor.specs.Standing.{Stands, turns_made}
use Rattle.esa_spec.specs.Fronts.{Begins, EndsWith, items_in}
use Rattle.esa_params.specs.Sizes.{Sizes}
use Rattle.esa_params.specs.declared.slot.Access.{Access}
use Rattle.esa_spec.specs.Draws.{Draw}
use Rattle.esa_spec.specs.Traces.{attempt_trace, is_failed}
use Rattle.esa_spec.specs.Turns.{order}
use Rattle.esa_spec.specs.Verdicts.{verdict}
use Rattle.esa_spec.specs.declared.event.Verdict.{Verdict}
use Rattle.esa_vault.specs.declared.fault.VaultFault.{VaultFault}
use Rattle.esa_press.specs.Stepped.{EndsSteps}

-- attempt a is at work, none of its turns has failed, and all of its chunks are written. The history has room for an entry
-- more
pub record IsDistributed {V : Type 0} (faults : V → ℕ) (p : Sizes) (ds : ℕ → Draw) (f : Parts V) (a : ℕ) : Type 0 where
  pub stands : Stands faults p ds f
  pub attempt : f.attempt ≡ Some a
  pub runs : f.stop ≡ None
  pub all : f.counted.writes ≡ f.plan.b * f.plan.b
  pub room : length f.history < f.room

-- attempt a is over, and has failed with this verdict
pub record HasFailed {V : Type 0} (faults : V → ℕ) (p : Sizes) (ds : ℕ → Draw) (f : Parts V) (a : ℕ) (v : Verdict) : Type 0 where
  pub over : IsOver faults p ds f a
  pub failed : is_failed f.plan (ds a) (turns_made f) ≡ true
  pub verdict_is : verdict f.plan (ds a) (turns_made f) ≡ v

-- an access of attempt a failed, or gave a block that doesn't open. It is the last one that was made, and those made begin
-- the accesses of the attempt
pub record IsCut {V : Type 0} (faults : V → ℕ) (p : Sizes) (ds : ℕ → Draw) (f : Parts V) (a : ℕ) (fault : VaultFault) : Type 0 where
  pub made : List Access
  pub access : Access
  pub has_made : HasMade p ds f a made
  pub begins : Begins made (attempt_trace f.plan (ds a) a (turns_made f))
  pub ends : EndsWith made access
  pub cause : EndsSteps f.plan f.run a (items_in f.plan (ds a) (order f.plan.b (turns_made f)) access) f.faults (faults f.recorder.device) f.recorder.last access fault
