-- The mark of a floor, which never falls: how far a run has come.
use Rattle.std.specs.Prelude.{ℕ, ◌+◌, ◌*◌, ◌==◌, if◌then◌else◌, Option, Some, None}
use Rattle.esa_spec.specs.Histories.{begun}
use Rattle.esa_floor.specs.Parts.{Parts}
use Rattle.esa_floor.specs.declared.turn.Outcome.{Outcome}
use Rattle.esa_floor.specs.declared.turn.Outcome.TheVariants.{Shuffled, Overflow, DeviceFault, Tampered, BatchFailed}
use Rattle.esa_floor.specs.declared.turn.Stop.{Stop}
use Rattle.esa_floor.specs.declared.floor.Roots.{Roots}

-- by how the run ended, or else by whether the attempt at work has a stop
abbrev pub code_of : Option Outcome → Option Stop → ℕ
code_of (Some (Shuffled attempt)) stop = 0
code_of (Some Overflow) stop = 1
code_of (Some (DeviceFault number)) stop = 2
code_of (Some (Tampered number)) stop = 3
code_of (Some BatchFailed) stop = 4
code_of None None = 5
code_of None (Some stop) = 6

-- eight for each entry of the owner, and the code. Nothing before the first
abbrev pub mark_of : {V : Type 0} → Parts V → ℕ
mark_of f = let m = begun f.plan.workers f.history in if m == 0 then 0 else 8 * m + code_of f.outcome f.stop

-- what never changes
abbrev pub roots_of : {V : Type 0} → Parts V → Roots
roots_of f = record { plan = f.plan; outer = f.outer; run = f.run; room = f.room; faults = f.faults }
