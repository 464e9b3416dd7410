-- What run and shuffle leave beside files and lines.
use Rattle.std.specs.Prelude.{◌≡◌, ℕ, List, [], Option, Some, None}
use Rattle.esa_lists.specs.Files.{Files}
use Rattle.esa_device.specs.Recording.{Recorded}
use Rattle.esa_ending.specs.Seen.{Seen}
use Rattle.esa_refusal.specs.declared.status.End.{End}
use Rattle.esa_command.specs.Settled.{Settles}
use Rattle.esa_command.specs.Stand.{Stand}
use Rattle.esa_command.specs.Work.{Work}
use Rattle.esa_running.specs.declared.purpose.Purpose.{Purpose}
use Rattle.esa_running.specs.ByCrew.{IsByCrew, uncut_by}
use Rattle.esa_running.specs.ComingOut.{Became}
use Rattle.esa_taking.specs.Run.{Asked}
use Rattle.esa_running.specs.RunOwes.{HasEnded, RunOwes}

-- the history: none where the load was not begun
abbrev pub history_in : Option (List ℕ) → List ℕ
history_in None = []
history_in (Some history) = history

-- it didn't begin: no access was made, and no turn was stored
pub record IsIdle {V : Type 0} (recorder : Recorded V) (history : List ℕ) : Type 0 where
  pub trace : recorder.trace ≡ []
  pub turns : history ≡ []

-- the shuffle ended so, where its load was given these bytes, and the work that is owed then is done
pub record HasWorked {V : Type 0} (purpose : Purpose) (told : V → Option (List (List ℕ))) (faults : V → ℕ) (asked : Asked) (given : List ℕ) (seen : Seen) (recorder : Recorded V) (cabinet cabinet_now : Stand Files) (printer printer_now : Stand (List ℕ)) (end : End) : Type 0 where
  pub work : Work
  pub ends : HasEnded purpose told faults asked given seen recorder work
  pub became : Became asked given seen.history recorder.log work.ended
  pub crew : IsByCrew asked seen.history (uncut_by work.ended)
  pub settles : Settles work cabinet cabinet_now printer printer_now end

-- what was asked for was acted on, and the work that is owed then is done
pub record HasActed {V : Type 0} (purpose : Purpose) (told : V → Option (List (List ℕ))) (faults : V → ℕ) (before : ℕ) (asked : Asked) (cabinet cabinet_now : Stand Files) (printer printer_now : Stand (List ℕ)) (recorder : Recorded V) (history : List ℕ) (end : End) : Type 0 where
  pub work : Work
  pub acted : Stand Files
  pub owes : RunOwes purpose told faults before recorder history asked cabinet acted work
  pub settles : Settles work acted cabinet_now printer printer_now end
