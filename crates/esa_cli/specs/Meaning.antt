-- What each command means.
use Rattle.std.specs.Prelude.{◌≡◌, ℕ, Bool, true, false, List, [], Option, Some}
use Rattle.esa_lists.specs.Files.{Files}
use Rattle.esa_device.specs.Recording.{Recorded}
use Rattle.esa_job.specs.declared.command.Command.{Command}
use Rattle.esa_job.specs.declared.command.Command.TheVariants as command
use Rattle.esa_outside.specs.Cause.{Rose}
use Rattle.esa_refusal.specs.declared.refusal.Refusal.TheVariants.{NotBuilt}
use Rattle.esa_refusal.specs.declared.status.Status.{Status}
use Rattle.esa_refusal.specs.declared.status.Status.TheVariants as status
use Rattle.esa_command.specs.Ends.{OwesAsked}
use Rattle.esa_command.specs.Stand.{Stand}
use Rattle.esa_command.specs.Step.{Step, refused, Reads}
use Rattle.esa_command.specs.Work.{Work}
use Rattle.esa_encoding.specs.Encode.{encode_steps}
use Rattle.esa_encoding.specs.Generate.{generate_steps}
use Rattle.esa_gathering.specs.Intake.{intake_steps}
use Rattle.esa_shuffling.specs.Batch.{batch_steps}
use Rattle.esa_shuffling.specs.Plan.{plan_steps}
use Rattle.esa_analysing.specs.Analyse.{analyse_steps}
use Rattle.esa_analysing.specs.Histogram.{histogram_steps}
use Rattle.esa_analysing.specs.Recover.{recover_steps}
use Rattle.esa_analysing.specs.Upgrade.{upgrade_steps}
use Rattle.esa_running.specs.declared.purpose.Purpose.TheVariants.{Count, HandOn}
use Rattle.esa_taking.specs.Run.{Asked, run_steps}
use Rattle.esa_running.specs.RunEnded.{IsIdle}
use Rattle.esa_running.specs.RunOwes.{RunOwes}

-- a recorder before a call and after it, and the turns that the call stored
pub record Used (V : Type 0) : Type 0 where
  pub recorder : Recorded V
  pub recorder_now : Recorded V
  pub history : List ℕ

-- what else stands before a call and after it, and how the call ended
pub record Around (V : Type 0) : Type 0 where
  pub cabinet : Stand Files
  pub cabinet_now : Stand Files
  pub printer : Stand (List ℕ)
  pub printer_now : Stand (List ℕ)
  pub used : Used V
  pub ended : Status

-- a count of faults rose, or stands at the last value of a u64
abbrev pub CabinetRose : {V : Type 0} → Around V → Type 0
CabinetRose around = Rose around.cabinet.faults around.cabinet_now.faults

abbrev pub PrinterRose : {V : Type 0} → Around V → Type 0
PrinterRose around = Rose around.printer.faults around.printer_now.faults

-- The steps that take in what a command is asked for; what holds of device and turns where it stopped before it acted; and, of
-- what was asked and of the cabinet before the act and after it, the work that it owes then.
pub record Meaning : Type 1 where
  pub Wanted : Type 0
  pub steps : Reads → Step Wanted
  pub Idle : Type 0
  pub Owes : Wanted → Stand Files → Stand Files → Work → Type 0

-- ---- a command without a device

-- the recorder is as it was, and no turn was stored
abbrev pub IsUntouched : {V : Type 0} → Used V → Type 0
IsUntouched used = (used.recorder_now ≡ used.recorder) × (used.history ≡ [])

-- It owes the work that it was asked for, which ends well if all is written and printed, and uses no device.
pub record OwesAlone {V : Type 0} (used : Used V) (asked : Work) (taken acted : Stand Files) (work : Work) : Type 0 where
  pub as_asked : OwesAsked asked taken acted work
  pub well : work.ended ≡ status.Ok
  pub untouched : IsUntouched used

abbrev pub alone : {V : Type 0} → Used V → (Reads → Step Work) → Meaning
alone used steps = record { Wanted = Work; steps = steps; Idle = IsUntouched used; Owes = OwesAlone used }

-- The steps of such a command over the job file of this name. A job of intake may ask for a crew where `crews` says so; the
-- others have no use for one. A command that isn't built yet is refused.
abbrev pub steps_of : (crews : Bool) → Command × List ℕ → Reads → Step Work
steps_of crews (command.Gen, name) = generate_steps false name
steps_of crews (command.Encode, name) = encode_steps false name
steps_of crews (command.Batch, name) = batch_steps false name
steps_of crews (command.Intake, name) = intake_steps crews name
steps_of crews (command.Analyse, name) = analyse_steps false name
steps_of crews (command.Histogram, name) = histogram_steps false name
steps_of crews (command.Upgrade, name) = upgrade_steps false name
steps_of crews (command.Recover, name) = recover_steps false name
steps_of crews (command.Plan, name) = plan_steps false name
steps_of crews (command, name) = λ read. refused (NotBuilt command)

-- ---- a command with a device

-- the words ask for nothing that needs a device
abbrev pub IsDeviceless : Option (Command × List ℕ) → Type 0
IsDeviceless (Some (command.Shuffle, name)) = ⊥
IsDeviceless (Some (command.Run, name)) = ⊥
IsDeviceless other = Unit {0}

-- only a shuffle ends so
abbrev pub IsOfShuffle : Status → Type 0
IsOfShuffle (status.Overflow failures) = Unit {0}
IsOfShuffle (status.DeviceFault at) = Unit {0}
IsOfShuffle (status.Tampered slot) = Unit {0}
IsOfShuffle other = ⊥

-- a shuffle of a batch: the recorder has made no access where it stopped before
abbrev pub shuffling : {V : Type 0} → Used V → (Reads → Step Asked) → (Asked → Stand Files → Stand Files → Work → Type 0) → Meaning
shuffling used steps Owes = record { Wanted = Asked; steps = steps; Idle = IsIdle used.recorder_now used.history; Owes = Owes }

-- ---- each command

-- the commands that are built
abbrev pub is_built : Command → Bool
is_built command.Gen = true
is_built command.Encode = true
is_built command.Batch = true
is_built command.Intake = true
is_built command.Shuffle = true
is_built command.Run = true
is_built command.Analyse = true
is_built command.Histogram = true
is_built command.Upgrade = true
is_built command.Recover = true
is_built command.Plan = true
is_built _ = false

-- By what a device tells, and by its count of faults. A job that shuffles a batch may ask for a crew where `crews` says so, and
-- is refused at its field `mode` otherwise.
abbrev pub meaning_of : {V : Type 0} → (told : V → Option (List (List ℕ))) → (faults : V → ℕ) → (crews : Bool) → Used V → Command × List ℕ → Meaning
meaning_of told faults crews used (command.Shuffle, name) =
    shuffling used (run_steps command.Shuffle crews name) (RunOwes HandOn told faults (faults used.recorder.device) used.recorder_now used.history)
meaning_of told faults crews used (command.Run, name) =
    shuffling used (run_steps command.Run crews name) (RunOwes Count told faults (faults used.recorder.device) used.recorder_now used.history)
meaning_of told faults crews used call = alone used (steps_of crews call)
