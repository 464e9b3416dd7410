-- What run and shuffle owe, by how the shuffle went.
use Rattle.std.specs.Prelude.{◌≡◌, ◌≢◌, ◌⊎◌, false, ℕ, List, [], length, map, Option, Some}
use Rattle.esa_lists.specs.Files.{Files}
use Rattle.esa_device.specs.Logs.{Carried, IsBacked, IsFaithful, last_given}
use Rattle.esa_device.specs.Recording.{Recorded}
use Rattle.esa_outside.specs.declared.Role.TheVariants as role
use Rattle.esa_ending.specs.Endings.{Succeeds, Overflows, DeviceFails, BlockIsTampered, BatchFails}
use Rattle.esa_ending.specs.Seen.{HistoryEnds, Seen, Rises, Stays, stored}
use Rattle.esa_floor.specs.declared.turn.Outcome.{Outcome}
use Rattle.esa_job.specs.Refusal.{runs_crew}
use Rattle.esa_params.specs.Sizes.{Sizes}
use Rattle.esa_params.specs.declared.slot.Access.{Access}
use Rattle.esa_spec.specs.Traces.{shuffle_trace}
use Rattle.esa_spec.specs.declared.event.Verdict.{Verdict}
use Rattle.esa_refusal.specs.declared.failures.Failures.{Failures}
use Rattle.esa_refusal.specs.declared.status.DeviceAt.TheVariants.{Lay, Slot as AtSlot}
use Rattle.esa_refusal.specs.declared.status.Status.TheVariants as status
use Rattle.esa_refusal.specs.Failures.{verdicts_of}
use Rattle.esa_refusal.specs.declared.status.Status.{Status}
use Rattle.esa_vault.specs.declared.fault.VaultFault.{VaultFault}
use Rattle.esa_vault.specs.declared.fault.VaultFault.TheVariants as fault
use Rattle.esa_command.specs.Doing.{failed_work}
use Rattle.esa_command.specs.Stand.{Stand}
use Rattle.esa_command.specs.Work.{Write, Work}
use Rattle.esa_shuffle.specs.Runs.{EndWithCut, EndsRun, opens_last, seen_of}
use Rattle.esa_running.specs.declared.purpose.Purpose.{Purpose}
use Rattle.esa_running.specs.ByCrew.{IsByCrew, uncut_by}
use Rattle.esa_running.specs.ComingOut.{IsLoaded, Became, AreOfBatch}
use Rattle.esa_running.specs.Forwarding.{Forwards}
use Rattle.esa_running.specs.WellEnded.{CanBeAsked}
use Rattle.esa_taking.specs.Run.{Asked}
use Rattle.esa_running.specs.RunWork.{records_of, success_work}
use Rattle.esa_taking.specs.Wanted.{sizes_in, turns_by, block_keys, HasFewAttempts}

-- how the shuffle of what is asked for ends, by its outcome: of what is seen of it, and of the bytes that were read last.
-- Where the turns are handed in, those that were stored end with the access that cut it
pub record EndsShuffle (asked : Asked) (seen : Seen) (last : List ℕ) (failures : List Verdict) (outcome : Outcome) : Type 0 where
  pub run : EndsRun (sizes_in asked) asked.draws (turns_by asked seen.history) seen (opens_last (sizes_in asked) (block_keys asked) last) failures outcome
  pub cut : runs_crew asked.job ≡ false → EndWithCut (sizes_in asked) (stored (sizes_in asked) seen) (turns_by asked seen.history) seen.trace outcome

-- the files that tell how it went
abbrev pub records_owed : Asked → Seen → List Write
records_owed asked seen = records_of asked seen.trace seen.history

-- they are written where an access was made
abbrev pub where_made : {A : Type 0} → List A → List Write → List Write
where_made [] writes = []
where_made accesses writes = writes

-- the status of a block that wasn't got
abbrev pub fault_status : VaultFault → Status
fault_status (fault.Device number) = status.DeviceFault (AtSlot number)
fault_status (fault.Tampered number) = status.Tampered number

-- ---- how it ended

-- where the turns are handed in, those that were stored end with this access
abbrev pub EndsHistory : Asked → Seen → Access → Type 0
EndsHistory asked seen access =
    runs_crew asked.job ≡ false → HistoryEnds (sizes_in asked) (stored (sizes_in asked) seen) (turns_by asked seen.history) access

-- the device couldn't be laid, and no access was made. The batch file didn't fail
pub record IsNotLaid (seen : Seen) (work : Work) : Type 0 where
  pub trace : seen.trace ≡ []
  pub history : seen.history ≡ []
  pub cause : Rises seen.device
  pub batch : Stays seen.batch
  pub owed : work ≡ failed_work (status.DeviceFault Lay) []

-- each attempt failed
pub record HasOverflowed (asked : Asked) (seen : Seen) (work : Work) : Type 0 where
  pub failures : Failures
  pub ends : Overflows (sizes_in asked) asked.draws (turns_by asked seen.history) seen (verdicts_of failures)
  pub owed : work ≡ failed_work (status.Overflow failures) (records_owed asked seen)

-- the device failed at an access to the slot of this number
pub record HasFailedAt (asked : Asked) (seen : Seen) (work : Work) : Type 0 where
  pub number : ℕ
  pub ends : DeviceFails (sizes_in asked) asked.draws (turns_by asked seen.history) seen number
  pub turns : EndsHistory asked seen ends.access
  pub owed : work ≡ failed_work (status.DeviceFault (AtSlot number)) (records_owed asked seen)

-- the block that was read last, of the slot of this number, doesn't open
pub record IsTamperedAt (asked : Asked) (seen : Seen) (last : List ℕ) (work : Work) : Type 0 where
  pub number : ℕ
  pub ends : BlockIsTampered (sizes_in asked) asked.draws (turns_by asked seen.history) seen (opens_last (sizes_in asked) (block_keys asked) last) number
  pub turns : EndsHistory asked seen ends.access
  pub owed : work ≡ failed_work (status.Tampered number) (records_owed asked seen)

-- the batch couldn't be read a second time, in the load
pub record IsUnloaded (asked : Asked) (seen : Seen) (work : Work) : Type 0 where
  pub ends : BatchFails (sizes_in asked) seen (length seen.trace)
  pub owed : work ≡ failed_work (status.OutsideFault role.Input) (where_made seen.trace (records_owed asked seen))

-- the recorder of what is asked for before its output was scanned: its log is that of the shuffle
pub record HasShuffled {V : Type 0} (asked : Asked) (seen : Seen) (shuffled : Recorded V) : Type 0 where
  pub plan : shuffled.plan ≡ Some (sizes_in asked)
  pub trace : shuffled.trace ≡ shuffle_trace (sizes_in asked) asked.draws (stored (sizes_in asked) seen)
  pub logged : map (λ (entry : Carried). entry.access) shuffled.log ≡ shuffled.trace

-- the shuffle succeeded: what is forwarded of its output is counted or handed on
pub record HasSucceeded {V : Type 0} (purpose : Purpose) (told : V → Option (List (List ℕ))) (faults : V → ℕ) (asked : Asked) (given : List ℕ) (seen : Seen) (now : Recorded V) (work : Work) : Type 0 where
  pub attempt : ℕ
  pub ends : Succeeds (sizes_in asked) asked.draws (turns_by asked seen.history) seen attempt
  -- the recorder before the output was scanned, and what is forwarded
  pub shuffled : Recorded V
  pub made : HasShuffled asked seen shuffled
  pub envelopes : List (List ℕ)
  pub forwards : Forwards told faults asked attempt shuffled now envelopes
  -- where the device gave back what was written, these are of the records of the batch
  pub comes_out : IsFaithful (sizes_in asked) now.log → AreOfBatch asked attempt seen.history given forwards.forwarded.first forwards.forwarded.second envelopes
  pub owed : work ≡ success_work purpose asked attempt envelopes seen.trace seen.history

-- ---- what it owes

-- how it ended, where the load was given these bytes for the records of the batch
abbrev pub HasEnded : {V : Type 0} → Purpose → (told : V → Option (List (List ℕ))) → (faults : V → ℕ) → Asked → (given : List ℕ) → Seen → (now : Recorded V) → Work → Type 0
HasEnded purpose told faults asked given seen now work =
    HasSucceeded purpose told faults asked given seen now work
    ⊎ HasOverflowed asked seen work ⊎ HasFailedAt asked seen work ⊎ IsTamperedAt asked seen now.last work ⊎ IsUnloaded asked seen work ⊎ IsNotLaid seen work

-- the recorder of a shuffle: once the load was begun it is ready for these sizes, its log is of the accesses that were
-- made, and the bytes that it keeps are those that the last read of its log gave. Where its device tells its blocks, each has
-- what was written there last, and the log is faithful
pub record IsRecorded {V : Type 0} (told : V → Option (List (List ℕ))) (p : Sizes) (history : List ℕ) (now : Recorded V) : Type 0 where
  pub plan : history ≢ [] → now.plan ≡ Some p
  pub logged : map (λ (entry : Carried). entry.access) now.log ≡ now.trace
  pub last : now.last ≡ last_given now.log
  pub backed : IsBacked (Some p) (told now.device) now.log

-- what a shuffle for a purpose owes, whose device counted so many faults before it: by what was asked, and what is seen of it.
-- It reads the cabinet and changes no file
pub record RunOwes {V : Type 0} (purpose : Purpose) (told : V → Option (List (List ℕ))) (faults : V → ℕ) (before : ℕ) (now : Recorded V) (history : List ℕ) (asked : Asked) (taken acted : Stand Files) (work : Work) : Type 0 where
  -- it could be asked for
  pub can : CanBeAsked asked
  -- what the load was given for the records of the batch, and what became of them
  pub given : List ℕ
  pub load : IsLoaded asked taken acted history given
  pub became : Became asked given history now.log work.ended
  -- whose turns these were: of no more attempts than are planned, and of a crew where the job asks for one
  pub few : HasFewAttempts asked history
  pub crew : IsByCrew asked history (uncut_by work.ended)
  pub ends : HasEnded purpose told faults asked given (seen_of faults before taken.faults now history acted.faults) now work
  pub recorder : IsRecorded told (sizes_in asked) history now
  pub still : acted.told ≡ taken.told
