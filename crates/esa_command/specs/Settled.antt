-- How the work of a command is done: the files first, then the lines.
use Rattle.std.specs.Prelude.{◌≡◌, ◌⊎◌, ℕ, ◌<◌, List, [], ◌∷◌, ◌++◌, length, take, map, flat_map, Option, Some, None}
use Rattle.std.specs.FinMap as map
use Rattle.esa_lists.specs.Files.{Files}
use Rattle.esa_outside.specs.Cause.{Rose}
use Rattle.esa_outside.specs.Heard.{Event, printed}
use Rattle.esa_outside.specs.Told.{HoldsFront, AddsFront, line_of}
use Rattle.esa_page.specs.Writing.{HasWritten, HasBroken}
use Rattle.esa_outside.specs.declared.Role.TheVariants as role
use Rattle.esa_refusal.specs.declared.source.Sink.{Sink}
use Rattle.esa_refusal.specs.declared.status.End.{End}
use Rattle.esa_refusal.specs.declared.status.End.TheVariants.{Stopped, Settled}
use Rattle.esa_refusal.specs.declared.status.Status.{Status}
use Rattle.esa_refusal.specs.declared.status.Status.TheVariants as status
use Rattle.esa_refusal.specs.Source.{role_of_sink}
use Rattle.esa_command.specs.Stand.{Stand}
use Rattle.esa_command.specs.Work.{Write, Work}

-- All is written and printed; the write of a sink failed; all is written, and a line failed.
pub data Went : Type 0 where
  whole : Went
  unwritten : Sink → Went
  unprinted : Went

-- A failing status stays where a write or a line fails. Only Ok gives way to the fault: the line that says so is owed where
-- a file wasn't written, and none is where a line wasn't printed.
abbrev pub unwritten_as : Sink → Status → End
unwritten_as sink status.Ok = Stopped (status.OutsideFault (role_of_sink sink))
unwritten_as sink ended = Settled ended

abbrev pub unprinted_as : Status → End
unprinted_as status.Ok = Settled (status.OutsideFault role.Printer)
unprinted_as ended = Settled ended

abbrev pub ending : Status → Went → End
ending ended whole = Settled ended
ending ended (unwritten sink) = unwritten_as sink ended
ending ended unprinted = unprinted_as ended

-- the files once these are written
abbrev pub written : Files → List Write → Files
written files [] = files
written files (write ∷ writes) = written (map.insert files write.name write.bytes) writes

-- The files where the write of a sink failed: those before it are whole, its own is as it was or holds a front of
-- its bytes, and none after it was begun.
abbrev pub BreaksAt : Sink → Files → List Write → Option Files → Type 0
BreaksAt sink files [] left = ⊥
BreaksAt sink files (write ∷ writes) left =
    ((write.sink ≡ sink) × ((left ≡ Some files) ⊎ HoldsFront files write.name write.bytes left))
    ⊎ BreaksAt sink (map.insert files write.name write.bytes) writes left

-- what a cabinet that tells its files tells then
abbrev pub Leaves : List Write → Files → Option Files → Went → Type 0
Leaves writes files left whole = left ≡ Some (written files writes)
Leaves writes files left (unwritten sink) = BreaksAt sink files writes left
Leaves writes files left unprinted = left ≡ Some (written files writes)

-- what a printer that tells tells then
abbrev pub Prints : List (List ℕ) → List ℕ → Option (List ℕ) → Went → Type 0
Prints lines before now whole = now ≡ Some (before ++ flat_map line_of lines)
Prints lines before now (unwritten sink) = now ≡ Some before
Prints lines before now unprinted = AddsFront before (flat_map line_of lines) now

-- by what the cabinet was heard to take: each file was started and its bytes added, one file after another
abbrev pub WritesHeard : List Write → List Event → List Event → Type 0
WritesHeard [] before now = now ≡ before
WritesHeard (write ∷ writes) before now = (middle : List Event) × HasWritten before write.name write.bytes middle × WritesHeard writes middle now

-- the same up to the file of a sink, which wasn't written whole
abbrev pub BreakHeard : Sink → List Write → List Event → List Event → Type 0
BreakHeard sink [] before now = ⊥
BreakHeard sink (write ∷ writes) before now =
    ((write.sink ≡ sink) × HasBroken before write.name write.bytes now)
    ⊎ ((middle : List Event) × HasWritten before write.name write.bytes middle × BreakHeard sink writes middle now)

abbrev pub FilesHeard : List Write → List Event → List Event → Went → Type 0
FilesHeard writes before now whole = WritesHeard writes before now
FilesHeard writes before now (unwritten sink) = BreakHeard sink writes before now
FilesHeard writes before now unprinted = WritesHeard writes before now

-- by what the printer was heard to print: all lines; none; or those before the one that failed
abbrev pub LinesHeard : List (List ℕ) → List Event → List Event → Went → Type 0
LinesHeard lines before now whole = now ≡ before ++ map printed lines
LinesHeard lines before now (unwritten sink) = now ≡ before
LinesHeard lines before now unprinted = (n : ℕ) × (n < length lines) × (now ≡ before ++ map printed (take n lines))

-- a fault has raised the count of its side
abbrev pub Counts : (before now printer_before printer : ℕ) → Went → Type 0
Counts before now printer_before printer whole = (now ≡ before) × (printer ≡ printer_before)
Counts before now printer_before printer (unwritten sink) = Rose before now × (printer ≡ printer_before)
Counts before now printer_before printer unprinted = (now ≡ before) × Rose printer_before printer

-- The work is done, or stops at a fault.
pub record Settles (work : Work) (cabinet cabinet_now : Stand Files) (printer printer_now : Stand (List ℕ)) (end : End) : Type 0 where
  pub went : Went
  pub ended : end ≡ ending work.ended went
  pub counts : Counts cabinet.faults cabinet_now.faults printer.faults printer_now.faults went
  pub files : (files : Files) → cabinet.told ≡ Some files → Leaves work.writes files cabinet_now.told went
  pub prints : (text : List ℕ) → printer.told ≡ Some text → Prints work.prints text printer_now.told went
  pub files_heard : FilesHeard work.writes cabinet.heard cabinet_now.heard went
  pub lines_heard : LinesHeard work.prints printer.heard printer_now.heard went
  pub silent : cabinet.told ≡ None → cabinet_now.told ≡ None
  pub printer_silent : printer.told ≡ None → printer_now.told ≡ None
