-- What a call that writes files or prints lines leaves, for the work of a command.
use Rattle.std.specs.Prelude.{◌≡◌, ℕ, ◌<◌, List, [], ◌∷◌, ◌++◌, length, take, map, flat_map, Some, None, Result, Ok, Err}
use Rattle.esa_lists.specs.Files.{Files}
use Rattle.esa_outside.specs.Cause.{Rose}
use Rattle.esa_outside.specs.Heard.{printed}
use Rattle.esa_outside.specs.Told.{AddsFront, line_of}
use Rattle.esa_refusal.specs.declared.source.Sink.{Sink}
use Rattle.esa_refusal.specs.declared.status.Status.{Status}
use Rattle.esa_refusal.specs.declared.status.Status.TheVariants.{Ok as EndsWell}
use Rattle.esa_refusal.specs.Status.{status_texts}
use Rattle.esa_command.specs.Settled.{written, BreaksAt, WritesHeard, BreakHeard}
use Rattle.esa_command.specs.Stand.{Stand}
use Rattle.esa_command.specs.Work.{Write, Work}

-- These files are written, one after another.
pub record AreWritten (writes : List Write) (before now : Stand Files) : Type 0 where
  pub kept : now.faults ≡ before.faults
  pub told : (files : Files) → before.told ≡ Some files → now.told ≡ Some (written files writes)
  pub heard : WritesHeard writes before.heard now.heard
  pub silent : before.told ≡ None → now.told ≡ None

-- The file of a sink isn't, and none after it.
pub record AreBroken (sink : Sink) (writes : List Write) (before now : Stand Files) : Type 0 where
  pub rose : Rose before.faults now.faults
  pub told : (files : Files) → before.told ≡ Some files → BreaksAt sink files writes now.told
  pub heard : BreakHeard sink writes before.heard now.heard
  pub silent : before.told ≡ None → now.told ≡ None

-- These lines are printed.
pub record ArePrinted (lines : List (List ℕ)) (before now : Stand (List ℕ)) : Type 0 where
  pub kept : now.faults ≡ before.faults
  pub told : (text : List ℕ) → before.told ≡ Some text → now.told ≡ Some (text ++ flat_map line_of lines)
  pub heard : now.heard ≡ before.heard ++ map printed lines
  pub silent : before.told ≡ None → now.told ≡ None

-- One of them isn't, and none after it.
pub record AreCut (lines : List (List ℕ)) (before now : Stand (List ℕ)) : Type 0 where
  pub rose : Rose before.faults now.faults
  pub told : (text : List ℕ) → before.told ≡ Some text → AddsFront text (flat_map line_of lines) now.told
  pub heard : (n : ℕ) × (n < length lines) × (now.heard ≡ before.heard ++ map printed (take n lines))
  pub silent : before.told ≡ None → now.told ≡ None

-- one file, by what the call answers
abbrev pub WritesIt : {T E : Type 0} → Write → Stand Files → Stand Files → Result T E → Type 0
WritesIt write before now (Ok done) = AreWritten (write ∷ []) before now
WritesIt write before now (Err why) = AreBroken write.sink (write ∷ []) before now

-- lines, by what the call answers
abbrev pub PrintsAll : {T E : Type 0} → List (List ℕ) → Stand (List ℕ) → Stand (List ℕ) → Result T E → Type 0
PrintsAll lines before now (Ok done) = ArePrinted lines before now
PrintsAll lines before now (Err why) = AreCut lines before now

-- files, by what the call answers: where it isn't Ok, by the sink of the one that isn't written
abbrev pub WritesAll : {T : Type 0} → List Write → Stand Files → Stand Files → Result T Sink → Type 0
WritesAll writes before now (Ok done) = AreWritten writes before now
WritesAll writes before now (Err sink) = AreBroken sink writes before now

-- one file is written, and one line printed
abbrev pub one_of_each : Write → List ℕ → Work
one_of_each write line = record { ended = EndsWell; writes = write ∷ []; prints = line ∷ [] }

-- What is left to do where a command failed after its input was accepted: these files are written, and the lines of its status
-- are printed. By `ending` the status stays, whatever fails then.
abbrev pub failed_work : Status → List Write → Work
failed_work status writes = record { ended = status; writes = writes; prints = status_texts status }
