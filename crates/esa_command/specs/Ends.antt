-- How a command leaves the cabinet and the printer.
use Rattle.std.specs.Prelude.{◌≡◌, ◌⊎◌, ℕ, List, Ok, Err}
use Rattle.esa_lists.specs.Files.{Files}
use Rattle.esa_refusal.specs.declared.status.End.{End}
use Rattle.esa_refusal.specs.declared.status.End.TheVariants.{Stopped}
use Rattle.esa_refusal.specs.declared.stop.Stop.{Stop}
use Rattle.esa_refusal.specs.Status.{status_of}
use Rattle.esa_command.specs.Judged.{Judged}
use Rattle.esa_command.specs.Settled.{Settles}
use Rattle.esa_command.specs.Stand.{Stand}
use Rattle.esa_command.specs.Step.{Step, Reads}
use Rattle.esa_command.specs.Work.{Work}

-- Files are read in 22 places: those of the six roles, and then those of sixteen inputs, which are read one after another.

-- It stopped before it acted, nothing was written or printed, and what else it has is idle.
pub record Stops {A : Type 0} (idle : Type 0) (steps : Reads → Step A) (cabinet cabinet_now : Stand Files) (printer printer_now : Stand (List ℕ)) (end : End) : Type 0 where
  pub stop : Stop
  pub ended : end ≡ Stopped (status_of stop)
  pub judged : Judged {X = A} 0 22 (λ asked. asked) steps cabinet cabinet_now (Err stop)
  pub printer_stands : printer_now ≡ printer
  pub idles : idle

-- Its input is accepted and asks for something; the command acts for that, after all that was read; and the work that it
-- owes then is done.
pub record Works {A : Type 0} (Owes : A → Stand Files → Stand Files → Work → Type 0) (steps : Reads → Step A) (cabinet cabinet_now : Stand Files) (printer printer_now : Stand (List ℕ)) (end : End) : Type 0 where
  pub asked : A
  pub taken : Stand Files
  pub judged : Judged 0 22 (λ asked. asked) steps cabinet taken (Ok asked)
  pub work : Work
  pub acted : Stand Files
  pub owes : Owes asked taken acted work
  pub settles : Settles work acted cabinet_now printer printer_now end

-- A command that acts: `idle` says what holds of all but the cabinet and the printer where it stopped before, and `Owes`
-- says, of what was asked and of the cabinet before the act and after it, which work is owed. The crate of the command
-- gives both: they say what its device and its history did.
abbrev pub EndsBy : {A : Type 0} → (idle : Type 0) → (Owes : A → Stand Files → Stand Files → Work → Type 0) → (Reads → Step A)
    → (cabinet cabinet_now : Stand Files) → (printer printer_now : Stand (List ℕ)) → End → Type 0
EndsBy idle Owes steps cabinet cabinet_now printer printer_now end =
    Stops idle steps cabinet cabinet_now printer printer_now end ⊎ Works Owes steps cabinet cabinet_now printer printer_now end

-- The work that is owed is the one that the input asks for, and nothing is done before it.
pub record OwesAsked (asked : Work) (taken acted : Stand Files) (work : Work) : Type 0 where
  pub same : work ≡ asked
  pub still : acted ≡ taken

-- A command without a device has the cabinet and the printer alone.
abbrev pub Ends : (Reads → Step Work) → (cabinet cabinet_now : Stand Files) → (printer printer_now : Stand (List ℕ)) → End → Type 0
Ends steps cabinet cabinet_now printer printer_now end = EndsBy (Unit {0}) OwesAsked steps cabinet cabinet_now printer printer_now end
