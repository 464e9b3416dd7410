-- A run without faults, and how it ends then.
use Rattle.std.specs.Prelude.{◌≡◌, ◌⊎◌, ℕ, ◌<◌, true, Some, List, map}
use Rattle.esa_command.specs.Stand.{Stand}
use Rattle.esa_device.specs.Logs.{IsFaithful}
use Rattle.esa_device.specs.Recording.{Recorded}
use Rattle.esa_ending.specs.Seen.{verdict_in}
use Rattle.esa_lists.specs.Files.{Files}
use Rattle.esa_outside.specs.Cause.{Rose}
use Rattle.esa_params.specs.Sizes.{ArePlanned, below}
use Rattle.esa_refusal.specs.Failures.{verdicts_of}
use Rattle.esa_refusal.specs.declared.failures.Failures.{Failures}
use Rattle.esa_refusal.specs.declared.status.Status.{Status}
use Rattle.esa_refusal.specs.declared.status.Status.TheVariants as status
use Rattle.esa_spec.specs.Draws.{IsDrawn}
use Rattle.esa_spec.specs.Traces.{all_failed, good_attempt}
use Rattle.esa_taking.specs.Run.{Asked}
use Rattle.esa_taking.specs.Wanted.{sizes_in, turns_by}

-- it can be asked for: the sizes keep their limits, and what each planned attempt draws is a draw for them
pub record CanBeAsked (asked : Asked) : Type 0 where
  pub planned : ArePlanned (sizes_in asked)
  pub drawn : (a : ℕ) → a < (sizes_in asked).attempts → IsDrawn (sizes_in asked) (asked.draws a)

-- nothing failed: neither the device's count of faults rose nor that of the cabinet in the act, and each read of the log gave
-- back what was written
pub record IsWithoutFaults {V : Type 0} (faults : V → ℕ) (before : ℕ) (now : Recorded V) (asked : Asked) (taken acted : Stand Files) : Type 0 where
  pub device : ¬ Rose before (faults now.device)
  pub batch : ¬ Rose taken.faults acted.faults
  pub faithful : IsFaithful (sizes_in asked) now.log

-- an attempt of these turns is good, and the run ended with Ok
pub record EndsOk (asked : Asked) (history : List ℕ) (ended : Status) : Type 0 where
  pub attempt : ℕ
  pub good : good_attempt (sizes_in asked) asked.draws 0 (turns_by asked history) ≡ Some attempt
  pub status : ended ≡ status.Ok

-- each planned attempt of these turns has failed, and the run ended with Overflow and their verdicts
pub record EndsOverflow (asked : Asked) (history : List ℕ) (ended : Status) : Type 0 where
  pub failures : Failures
  pub failed : all_failed (sizes_in asked) asked.draws 0 (turns_by asked history) ≡ true
  pub verdicts : verdicts_of failures ≡ map (verdict_in (sizes_in asked) asked.draws (turns_by asked history)) (below (sizes_in asked).attempts)
  pub status : ended ≡ status.Overflow failures

-- a run ended well, with Ok or with Overflow, as the definition has it for its sizes, draws and turns
abbrev pub EndsWell : Asked → (history : List ℕ) → Status → Type 0
EndsWell asked history ended = EndsOk asked history ended ⊎ EndsOverflow asked history ended
