-- What a replay of turns that were handed in makes of a floor.
use Rattle.std.specs.Prelude.{◌≡◌, ℕ, ◌≤◌, List, ◌++◌, length, take, Option, Some, None}
use Rattle.esa_params.specs.Sizes.{Sizes}
use Rattle.esa_spec.specs.Completion.{full}
use Rattle.esa_spec.specs.Draws.{Draw}
use Rattle.esa_spec.specs.Traces.{spread}
use Rattle.esa_floor.specs.Parts.{Parts}
use Rattle.esa_floor.specs.declared.turn.Stop.{Stop}
use Rattle.esa_floor.specs.declared.turn.Stop.TheVariants as stop

-- no access failed, and each block that was given opened
abbrev pub IsUnbroken : Option Stop → Type 0
IsUnbroken None = Unit {0}
IsUnbroken (Some (stop.StashOverflow bucket)) = Unit {0}
IsUnbroken (Some (stop.DeviceFault number)) = ⊥
IsUnbroken (Some (stop.Tampered number)) = ⊥

-- the first turns of the completed list were taken, with the accesses that they ask for: all of them, unless the last
-- one failed at the device
pub record IsReplayed {V : Type 0} (p : Sizes) (d : Draw) (a : ℕ) (turns : List ℕ) (old new : Parts V) : Type 0 where
  pub count : ℕ
  pub few : count ≤ length (full p d turns)
  pub history : new.history ≡ old.history ++ take count (full p d turns)
  pub trace : new.recorder.trace ≡ old.recorder.trace ++ spread p d a (take count (full p d turns))
  pub whole : IsUnbroken new.stop → count ≡ length (full p d turns)
