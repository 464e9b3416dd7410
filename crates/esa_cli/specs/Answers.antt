-- How a call ends, by what its words ask for.
use Rattle.std.specs.Prelude.{◌≡◌, ◌⊎◌, ◌↔◌, ℕ, Bool, false, List, Option, Some, None}
use Rattle.esa_lists.specs.Files.{Files}
use Rattle.esa_job.specs.declared.command.Command.{Command}
use Rattle.esa_refusal.specs.declared.refusal.Refusal.TheVariants.{NotBuilt}
use Rattle.esa_refusal.specs.declared.status.End.{End}
use Rattle.esa_refusal.specs.declared.status.End.TheVariants.{Stopped}
use Rattle.esa_refusal.specs.declared.status.Status.{Status}
use Rattle.esa_refusal.specs.declared.status.Status.TheVariants as status
use Rattle.esa_refusal.specs.Status.{status_text}
use Rattle.esa_command.specs.Ends.{EndsBy}
use Rattle.esa_command.specs.Stand.{Stand}
use Rattle.esa_command.specs.Step.{accepted, reads_of}
use Rattle.esa_command.specs.Telling.{status_in, Tells}
use Rattle.esa_cli.specs.Explains.{Acts, Explains, EndCounted, ShowsLine, Shows}
use Rattle.esa_cli.specs.Meaning.{Around, CabinetRose, PrinterRose, Meaning, IsUntouched, IsDeviceless, IsOfShuffle, is_built, meaning_of}

-- ---- for every cabinet, printer and device

-- a command ends as it means, before the line that it is owed is told
abbrev pub EndsAs : Meaning → (cabinet cabinet_now : Stand Files) → (printer printer_now : Stand (List ℕ)) → End → Type 0
EndsAs m cabinet cabinet_now printer printer_now end = EndsBy m.Idle m.Owes m.steps cabinet cabinet_now printer printer_now end

-- words that ask for nothing change nothing
pub record IsUsage {V : Type 0} (around : Around V) (middle : Stand (List ℕ)) (end : End) : Type 0 where
  pub ends : end ≡ Stopped status.Usage
  pub cabinet_stands : around.cabinet_now ≡ around.cabinet
  pub printer_stands : middle ≡ around.printer
  pub untouched : IsUntouched around.used

-- how a call ends whose commands mean this
abbrev pub CallEnds : {V : Type 0} → (Command × List ℕ → Meaning) → Option (Command × List ℕ) → Around V → (middle : Stand (List ℕ)) → End → Type 0
CallEnds means None around middle end = IsUsage around middle end
CallEnds means (Some call) around middle end = EndsAs (means call) around.cabinet around.cabinet_now around.printer middle end

-- The call ends, and then the line that it is owed is told.
pub record Runs {V : Type 0} (means : Command × List ℕ → Meaning) (call : Option (Command × List ℕ)) (around : Around V) : Type 0 where
  pub end : End
  pub middle : Stand (List ℕ)
  pub ends : CallEnds means call around middle end
  pub tells : Tells end middle around.printer_now
  pub status : around.ended ≡ status_in end

-- A command that isn't built is refused for that.
abbrev pub IsUnbuilt : Option (Command × List ℕ) → Status → Type 0
IsUnbuilt None ended = Unit {0}
IsUnbuilt (Some call) ended = is_built call.0 ≡ false → ended ≡ status.Refused (NotBuilt call.0)

-- ---- over a cabinet that tells its files

-- The status is Usage where the words ask for nothing, and nothing is changed then.
abbrev pub IsExplained : {V : Type 0} → (Command × List ℕ → Meaning) → Option (Command × List ℕ) → Around V → Files → Type 0
IsExplained means None around files = (around.ended ≡ status.Usage) × (around.cabinet_now.told ≡ Some files)
IsExplained means (Some call) around files = Explains (means call) around files around.ended

-- What an accepted input comes to where neither cabinet nor printer failed: want of memory, or the status of the work that is
-- owed.
abbrev pub IsComplete : {V : Type 0} → (Command × List ℕ → Meaning) → Option (Command × List ℕ) → Around V → Files → Type 0
IsComplete means None around files = Unit {0}
IsComplete means (Some call) around files =
    (wanted : (means call).Wanted) → (means call).steps (reads_of files) ≡ accepted wanted → ¬ CabinetRose around → ¬ PrinterRose around
    → (around.ended ≡ status.OutOfMemory) ⊎ Acts (means call) around (λ work. around.ended ≡ work.ended)

-- ---- over a printer that tells

abbrev pub IsPrinted : {V : Type 0} → (Command × List ℕ → Meaning) → Option (Command × List ℕ) → Around V → List ℕ → Type 0
IsPrinted means None around text = ShowsLine around text (status_text around.ended)
IsPrinted means (Some call) around text = Shows (means call) around text around.ended

-- ---- all of it

-- How a call ends, over devices that tell and count so, where a job may ask for a crew or may not. `runs` says it of every
-- cabinet, printer and device, by what they were heard to give and take; `unbuilt` and `alone` hold beside it. The others are what
-- follows: `explained` and `complete` for a cabinet that tells its files, and `printed` for a printer that tells.
pub record Answers {V : Type 0} (told : V → Option (List (List ℕ))) (faults : V → ℕ) (crews : Bool) (call : Option (Command × List ℕ)) (around : Around V) : Type 0 where
  pub runs : Runs (meaning_of told faults crews around.used) call around
  pub usage : (around.ended ≡ status.Usage) ↔ (call ≡ None)
  pub unbuilt : IsUnbuilt call around.ended
  pub alone : IsDeviceless call → IsUntouched around.used × ¬ IsOfShuffle around.ended
  pub explained : (files : Files) → around.cabinet.told ≡ Some files → IsExplained (meaning_of told faults crews around.used) call around files
  pub complete : (files : Files) → around.cabinet.told ≡ Some files → IsComplete (meaning_of told faults crews around.used) call around files
  pub counted : EndCounted faults around around.ended
  pub printed : (text : List ℕ) → around.printer.told ≡ Some text → IsPrinted (meaning_of told faults crews around.used) call around text
  pub silent : around.cabinet.told ≡ None → around.cabinet_now.told ≡ None
  pub printer_silent : around.printer.told ≡ None → around.printer_now.told ≡ None
