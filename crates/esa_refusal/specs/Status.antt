-- The lines of each status, and the status of the process.
use Rattle.std.specs.Prelude.{ℕ, Bool, true, false, List, [], ◌∷◌, ◌++◌, codes, if◌then◌else◌}
use Rattle.esa_outside.specs.declared.Role.TheVariants as role
use Rattle.esa_refusal.specs.declared.status.DeviceAt.{DeviceAt}
use Rattle.esa_refusal.specs.declared.status.DeviceAt.TheVariants.{Lay, Slot}
use Rattle.esa_refusal.specs.declared.status.Status.{Status}
use Rattle.esa_refusal.specs.declared.status.Status.TheVariants.{Ok, Overflow, Usage, Refused, DeviceFault, OutsideFault, OutOfMemory, Tampered}
use Rattle.esa_refusal.specs.declared.stop.Stop.{Stop}
use Rattle.esa_refusal.specs.declared.stop.Stop.TheVariants as stop
use Rattle.esa_refusal.specs.Failures.{verdict_texts, verdicts_of}
use Rattle.esa_refusal.specs.Refusal.{numbered, refusal_text}
use Rattle.esa_refusal.specs.Source.{role_of}
use Rattle.esa_refusal.specs.Words.{role_word}

-- what a process ends with
abbrev pub status_code : Status → ℕ
status_code Ok = 0
status_code (Overflow failures) = 1
status_code Usage = 2
status_code (Refused refusal) = 3
status_code (DeviceFault at) = 4
status_code (OutsideFault role) = 5
status_code OutOfMemory = 6
status_code (Tampered slot) = 7

-- where a device failed
abbrev pub device_text : DeviceAt → List ℕ
device_text Lay = codes "lay"
device_text (Slot slot) = numbered (codes "slot ") slot

-- a status's own line, where it isn't Ok
abbrev pub status_text : Status → List ℕ
status_text Ok = []
status_text (Overflow failures) = codes "overflow"
status_text Usage = codes "usage: esa COMMAND JOBFILE"
status_text (Refused refusal) = codes "refused: " ++ refusal_text refusal
status_text (DeviceFault at) = codes "device fault: " ++ device_text at
status_text (OutsideFault role) = codes "outside fault: " ++ role_word role
status_text OutOfMemory = codes "out of memory"
status_text (Tampered slot) = numbered (codes "tampered: slot ") slot

-- Whether a status has a line of its own: not Ok, whose lines are the command's, and not a fault of the printer in them.
abbrev pub has_line : Status → Bool
has_line Ok = false
has_line (OutsideFault role.Printer) = false
has_line status = true

-- the lines of failed attempts, where all failed
abbrev pub failed_texts : Status → List (List ℕ)
failed_texts (Overflow failures) = verdict_texts 0 (verdicts_of failures)
failed_texts status = []

-- its own line, where it has one
abbrev pub own_texts : Status → List (List ℕ)
own_texts status = if has_line status then status_text status ∷ [] else []

-- the lines of a status, without their newlines
abbrev pub status_texts : Status → List (List ℕ)
status_texts status = failed_texts status ++ own_texts status

-- the status of a command that took nothing in
abbrev pub status_of : Stop → Status
status_of (stop.Refused refusal) = Refused refusal
status_of (stop.Unread source) = OutsideFault (role_of source)
status_of stop.OutOfMemory = OutOfMemory
