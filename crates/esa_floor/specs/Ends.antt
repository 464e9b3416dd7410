-- How far an attempt has come, for what may follow it: another attempt, or the end of the run.
use Rattle.std.specs.Prelude.{◌≡◌, ℕ, ◌+◌, ◌<◌, true, List, ◌++◌, length}
use Rattle.esa_params.specs.Sizes.{Sizes}
use Rattle.esa_params.specs.declared.slot.Access.{Access}
use Rattle.esa_spec.specs.Draws.{Draw, IsDrawn}
use Rattle.esa_spec.specs.Histories.{begun}
use Rattle.esa_spec.specs.Traces.{all_failed, attempt_trace, attempts, load}
use Rattle.esa_floor.specs.Parts.{Parts}
use Rattle.esa_floor.specs.Standing.{IsOf, lists_before, turns_made}
use Rattle.esa_spec.specs.Fronts.{Begins}

-- attempt a is at work, of attempts that all failed before it, and has made these accesses. The history has room for an
-- entry more
pub record HasMade {V : Type 0} (p : Sizes) (ds : ℕ → Draw) (f : Parts V) (a : ℕ) (made : List Access) : Type 0 where
  pub of : IsOf p f
  pub room : length f.history < f.room
  pub drawn : (b : ℕ) → b < p.attempts → IsDrawn p (ds b)
  pub begun : begun f.plan.workers f.history ≡ a + 1
  pub planned : a < p.attempts
  pub earlier : all_failed f.plan ds 0 (lists_before f) ≡ true
  pub trace : f.recorder.trace ≡ (load f.plan ++ attempts f.plan ds 0 (lists_before f)) ++ made

-- all accesses of attempt a were made, and no call of the device failed
pub record IsOver {V : Type 0} (faults : V → ℕ) (p : Sizes) (ds : ℕ → Draw) (f : Parts V) (a : ℕ) : Type 0 where
  pub made : HasMade p ds f a (attempt_trace f.plan (ds a) a (turns_made f))
  pub calm : faults f.recorder.device ≡ f.faults

-- no attempt was begun, and these accesses of the load were made
pub record IsLoading {V : Type 0} (p : Sizes) (ds : ℕ → Draw) (f : Parts V) : Type 0 where
  pub of : IsOf p f
  pub room : length f.history < f.room
  pub drawn : (b : ℕ) → b < p.attempts → IsDrawn p (ds b)
  pub none_begun : begun f.plan.workers f.history ≡ 0
  pub trace : Begins f.recorder.trace (load f.plan)
