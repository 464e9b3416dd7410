-- Why a call ended as it did, what it left and what it printed, by what its command means.
use Rattle.std.specs.Prelude.{◌≡◌, ◌⊎◌, ℕ, List, ◌++◌, flat_map, Some, IsSome}
use Rattle.esa_lists.specs.Files.{Files}
use Rattle.esa_outside.specs.Cause.{Rose}
use Rattle.esa_outside.specs.Told.{AddsFront, line_of}
use Rattle.esa_outside.specs.declared.Role.{Role}
use Rattle.esa_outside.specs.declared.Role.TheVariants as role
use Rattle.esa_refusal.specs.declared.status.Status.{Status}
use Rattle.esa_refusal.specs.declared.status.Status.TheVariants as status
use Rattle.esa_refusal.specs.declared.source.Sink.{Sink}
use Rattle.esa_refusal.specs.declared.source.Sink.TheVariants as sink
use Rattle.esa_refusal.specs.declared.source.Source.{Source}
use Rattle.esa_refusal.specs.declared.source.Source.TheVariants as source
use Rattle.esa_refusal.specs.Refusal.{IsOfInput}
use Rattle.esa_refusal.specs.Status.{status_text}
use Rattle.esa_command.specs.Settled.{written, BreaksAt}
use Rattle.esa_command.specs.Stand.{Stand}
use Rattle.esa_command.specs.Step.{accepted, refused, missing, reads_of, without}
use Rattle.esa_command.specs.Work.{Work}
use Rattle.esa_cli.specs.Meaning.{Around, CabinetRose, PrinterRose, Meaning}

-- The input is accepted, as a cabinet that tells its files tells; the command acted for it; and P holds of the work that it
-- owed then.
pub record Acts {V : Type 0} (m : Meaning) (around : Around V) (P : Work → Type 0) : Type 0 where
  pub wanted : m.Wanted
  pub accepts : (files : Files) → around.cabinet.told ≡ Some files → m.steps (reads_of files) ≡ accepted wanted
  pub taken : Stand Files
  pub acted : Stand Files
  pub began : taken.faults ≡ around.cabinet.faults
  pub behind : (around.cabinet_now.faults ≡ acted.faults) ⊎ Rose acted.faults around.cabinet_now.faults
  pub work : Work
  pub owes : m.Owes wanted taken acted work
  pub so : P work

-- ---- over a cabinet that tells its files

-- A file wasn't read: all steps before it are accepted, the cabinet's count rose or the file isn't there, and nothing
-- changed.
pub record IsUnread {V : Type 0} (m : Meaning) (around : Around V) (files : Files) (source : Source) : Type 0 where
  pub reached : m.steps (without source (reads_of files)) ≡ missing source
  pub cause : CabinetRose around ⊎ (m.steps (reads_of files) ≡ missing source)
  pub unchanged : around.cabinet_now.told ≡ Some files

-- all files of a work that ends well are written
abbrev pub IsWhole : {V : Type 0} → Around V → Files → Work → Type 0
IsWhole around files work = (work.ended ≡ status.Ok) × (around.cabinet_now.told ≡ Some (written files work.writes))

-- of a work that ends well the file of a sink isn't written, and none after it
abbrev pub IsBroken : {V : Type 0} → Sink → Around V → Files → Work → Type 0
IsBroken sink around files work = (work.ended ≡ status.Ok) × BreaksAt sink files work.writes around.cabinet_now.told

-- The work fails so. Its files are written, or the cabinet's count rose, and those before the one that failed are.
abbrev pub IsFailed : {V : Type 0} → Status → Around V → Files → Work → Type 0
IsFailed ended around files work =
    (work.ended ≡ ended)
    × ((around.cabinet_now.told ≡ Some (written files work.writes)) ⊎ (CabinetRose around × (sink : Sink) × BreaksAt sink files work.writes around.cabinet_now.told))

-- a file of a role wasn't read or written, or a line not printed. The records of an input may be read while the command acts
abbrev pub IsFault : {V : Type 0} → Meaning → Around V → Files → Role → Type 0
IsFault m around files role.Job = IsUnread m around files source.Job
IsFault m around files role.Keys = IsUnread m around files source.Keys
IsFault m around files role.Drops = IsUnread m around files source.Drops
IsFault m around files role.Turns = IsUnread m around files source.Turns
IsFault m around files role.Input =
    IsUnread m around files source.Input ⊎ ((place : ℕ) × IsUnread m around files (source.Inputs place)) ⊎ Acts m around (IsFailed (status.OutsideFault role.Input) around files)
IsFault m around files role.Coins = IsUnread m around files source.Coins
IsFault m around files role.Output = Acts m around (IsBroken sink.Output around files)
IsFault m around files role.Trace = Acts m around (IsBroken sink.Trace around files)
IsFault m around files role.TurnsOut = Acts m around (IsBroken sink.TurnsOut around files)
IsFault m around files role.Printer = Acts m around (IsWhole around files)

-- What the files hold now, and that the input is accepted, or refused for this first. The statuses of a shuffle that fails are
-- those of the work that it owed.
abbrev pub Explains : {V : Type 0} → Meaning → Around V → Files → Status → Type 0
Explains m around files status.Ok = Acts m around (IsWhole around files)
Explains m around files status.Usage = ⊥
Explains m around files (status.Refused refusal) = (m.steps (reads_of files) ≡ refused refusal) × (around.cabinet_now.told ≡ Some files)
Explains m around files (status.OutsideFault role) = IsFault m around files role
Explains m around files status.OutOfMemory = around.cabinet_now.told ≡ Some files
Explains m around files failed = Acts m around (IsFailed failed around files)

-- ---- whatever is told

-- the count of the role's side has risen; a file that a cabinet tells may be missing instead
abbrev pub FaultCounted : {V : Type 0} → Around V → Role → Type 0
FaultCounted around role.Output = CabinetRose around
FaultCounted around role.Trace = CabinetRose around
FaultCounted around role.TurnsOut = CabinetRose around
FaultCounted around role.Printer = (around.cabinet_now.faults ≡ around.cabinet.faults) × PrinterRose around
FaultCounted around reading = CabinetRose around ⊎ IsSome around.cabinet.told

-- On Ok no count rose. After another status than a fault, where nothing was acted for, the cabinet's didn't, and the printer's
-- may have in its line. What is refused is the input. The device's count rose in a fault of the device, and didn't where a
-- block doesn't open or each attempt failed.
abbrev pub EndCounted : {V : Type 0} → (V → ℕ) → Around V → Status → Type 0
EndCounted faults around status.Ok =
    (around.cabinet_now.faults ≡ around.cabinet.faults) × (around.printer_now.faults ≡ around.printer.faults) × (faults around.used.recorder_now.device ≡ faults around.used.recorder.device)
EndCounted faults around status.Usage = around.cabinet_now.faults ≡ around.cabinet.faults
EndCounted faults around (status.Refused refusal) = (around.cabinet_now.faults ≡ around.cabinet.faults) × IsOfInput refusal
EndCounted faults around (status.OutsideFault role) = FaultCounted around role
EndCounted faults around status.OutOfMemory = around.cabinet_now.faults ≡ around.cabinet.faults
EndCounted faults around (status.DeviceFault at) = Rose (faults around.used.recorder.device) (faults around.used.recorder_now.device)
EndCounted faults around (status.Overflow failures) = faults around.used.recorder_now.device ≡ faults around.used.recorder.device
EndCounted faults around (status.Tampered slot) = faults around.used.recorder_now.device ≡ faults around.used.recorder.device

-- ---- by what was printed

-- of the line a front is printed behind the text, and all of it where the printer's count didn't rise
pub record ShowsLine {V : Type 0} (around : Around V) (text line : List ℕ) : Type 0 where
  pub front : AddsFront text (line_of line) around.printer_now.told
  pub all : ¬ PrinterRose around → around.printer_now.told ≡ Some (text ++ line_of line)

-- all lines of a work that ends well are printed, or a front of them
abbrev pub ShowsAll : {V : Type 0} → Around V → List ℕ → Work → Type 0
ShowsAll around text work = (work.ended ≡ status.Ok) × (around.printer_now.told ≡ Some (text ++ flat_map line_of work.prints))

abbrev pub ShowsFront : {V : Type 0} → Around V → List ℕ → Work → Type 0
ShowsFront around text work = (work.ended ≡ status.Ok) × AddsFront text (flat_map line_of work.prints) around.printer_now.told

-- The work fails so. Of its lines a front is printed, and all of them where neither count rose.
pub record ShowsFailed {V : Type 0} (ended : Status) (around : Around V) (text : List ℕ) (work : Work) : Type 0 where
  pub fails : work.ended ≡ ended
  pub front : AddsFront text (flat_map line_of work.prints) around.printer_now.told
  pub all : ¬ CabinetRose around → ¬ PrinterRose around → around.printer_now.told ≡ Some (text ++ flat_map line_of work.prints)

-- On Ok the lines that were owed are printed, and after a fault of the printer a front of them. On Overflow, DeviceFault and
-- Tampered it is the lines of a work that fails so. Else it is the status's own line, or such lines.
abbrev pub Shows : {V : Type 0} → Meaning → Around V → List ℕ → Status → Type 0
Shows m around text status.Ok = Acts m around (ShowsAll around text)
Shows m around text (status.OutsideFault role.Printer) = Acts m around (ShowsFront around text)
Shows m around text (status.Overflow failures) = Acts m around (ShowsFailed (status.Overflow failures) around text)
Shows m around text (status.DeviceFault at) = Acts m around (ShowsFailed (status.DeviceFault at) around text)
Shows m around text (status.Tampered slot) = Acts m around (ShowsFailed (status.Tampered slot) around text)
Shows m around text other = ShowsLine around text (status_text other) ⊎ Acts m around (ShowsFailed other around text)
