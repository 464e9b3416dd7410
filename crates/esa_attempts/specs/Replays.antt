-- A floor on which turns were replayed.
use Rattle.std.specs.Prelude.{◌≡◌, ◌≢◌, ℕ, ◌<◌, List, length, None}
use Rattle.esa_params.specs.Sizes.{Sizes}
use Rattle.esa_spec.specs.Draws.{Draw}
use Rattle.esa_floor.specs.Parts.{Parts}
use Rattle.esa_floor.specs.Standing.{Stands}
use Rattle.esa_floor.specs.Working.{Working}
use Rattle.esa_crew.specs.Posts.{ArePosts}

-- an attempt is at work, each worker stands at its post, and the history has room for an entry more
pub record HasReplayed {V C : Type 0} (faults : V → ℕ) (p : Sizes) (ds : ℕ → Draw) (target_lists : C → ℕ → ℕ → List ℕ) (f : Parts V) (workers : List (Working C)) : Type 0 where
  pub stands : Stands faults p ds f
  pub begun : f.attempt ≢ None
  pub room : length f.history < f.room
  pub posts : ArePosts ds target_lists f workers
  pub each : length workers ≡ f.plan.workers
