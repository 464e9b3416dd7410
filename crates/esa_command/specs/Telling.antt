-- The line that a status is owed once a command has stopped.
use Rattle.std.specs.Prelude.{◌≡◌, ◌⊎◌, ℕ, List, [], ◌∷◌, ◌++◌, Some, None}
use Rattle.esa_outside.specs.Cause.{Rose}
use Rattle.esa_outside.specs.Heard.{printed}
use Rattle.esa_outside.specs.Told.{AddsFront, line_of}
use Rattle.esa_refusal.specs.declared.status.End.{End}
use Rattle.esa_refusal.specs.declared.status.End.TheVariants.{Stopped, Settled}
use Rattle.esa_refusal.specs.declared.status.Status.{Status}
use Rattle.esa_refusal.specs.Status.{status_text}
use Rattle.esa_command.specs.Stand.{Stand}

-- the status of the process
abbrev pub status_in : End → Status
status_in (Stopped status) = status
status_in (Settled status) = status

-- the line is printed, or the count of the printer rose and no line was heard
pub record TellsLine (line : List ℕ) (before now : Stand (List ℕ)) : Type 0 where
  pub front : (text : List ℕ) → before.told ≡ Some text → AddsFront text (line_of line) now.told
  pub heard : (now.heard ≡ before.heard ++ printed line ∷ []) ⊎ ((now.heard ≡ before.heard) × Rose before.faults now.faults)
  pub whole : (text : List ℕ) → before.told ≡ Some text → ¬ Rose before.faults now.faults → now.told ≡ Some (text ++ line_of line)
  pub silent : before.told ≡ None → now.told ≡ None

-- a command that stopped is owed the line of its status, and one that settled is owed none
abbrev pub Tells : End → Stand (List ℕ) → Stand (List ℕ) → Type 0
Tells (Stopped status) before now = TellsLine (status_text status) before now
Tells (Settled status) before now = now ≡ before
