-- A floor before its first attempt.
use Rattle.std.specs.Prelude.{◌≡◌, ℕ, ◌<◌, length, None}
use Rattle.esa_params.specs.Sizes.{Sizes}
use Rattle.esa_spec.specs.Draws.{Draw, IsDrawn}
use Rattle.esa_spec.specs.Histories.{begun}
use Rattle.esa_spec.specs.Traces.{load}
use Rattle.esa_floor.specs.Parts.{Parts}
use Rattle.esa_floor.specs.Standing.{IsOf}

-- the blocks of the input were written, and nothing else was done
pub record IsLoaded {V : Type 0} (faults : V → ℕ) (p : Sizes) (ds : ℕ → Draw) (f : Parts V) : Type 0 where
  pub of : IsOf p f
  pub room : length f.history < f.room
  pub drawn : (a : ℕ) → a < p.attempts → IsDrawn p (ds a)
  pub attempts : 0 < p.attempts
  pub none_begun : begun f.plan.workers f.history ≡ 0
  pub goes_on : f.outcome ≡ None
  pub trace : f.recorder.trace ≡ load f.plan
  pub calm : faults f.recorder.device ≡ f.faults
