-- A run by a crew, and one that is handed the turns which the crew stored.
use Rattle.std.specs.Prelude.{◌≡◌, ℕ, ◌≤◌, Bool, true, false, if◌then◌else◌, IsSome, List, Option, Some, None}
use Rattle.std.specs.List.{filter_map}
use Rattle.esa_command.specs.Asked.{number_of}
use Rattle.esa_command.specs.Stand.{Stand}
use Rattle.esa_command.specs.Work.{Work, Write}
use Rattle.esa_device.specs.Logs.{IsFaithful}
use Rattle.esa_device.specs.Recording.{Recorded}
use Rattle.esa_job.specs.Refusal.{runs_crew}
use Rattle.esa_job.specs.Request.{name_at}
use Rattle.esa_job.specs.declared.field.JobField.TheVariants as field
use Rattle.esa_lists.specs.Files.{Files}
use Rattle.esa_model.specs.Drafts.{turns_in as number_of_turns}
use Rattle.esa_params.specs.Sizes.{ArePlanned}
use Rattle.esa_refusal.specs.declared.source.Sink.{Sink}
use Rattle.esa_refusal.specs.declared.source.Sink.TheVariants as sink
use Rattle.esa_spec.specs.Files.{turns_bytes}
use Rattle.esa_spec.specs.Histories.{lists}
use Rattle.esa_running.specs.ComingOut.{IsBegun}
use Rattle.esa_running.specs.RunOwes.{RunOwes}
use Rattle.esa_running.specs.declared.purpose.Purpose.{Purpose}
use Rattle.esa_taking.specs.Run.{Asked}
use Rattle.esa_taking.specs.Wanted.{sizes_in, turns_by}

-- a run that acted: what it was asked for, how its cabinet and its device stood, and the work that it owes
pub record ActedRun (V : Type 0) (purpose : Purpose) : Type 0 where
  pub asked : Asked
  pub told : V → Option (List (List ℕ))
  pub faults : V → ℕ
  pub before : ℕ
  pub recorder : Recorded V
  pub history : List ℕ
  pub taken : Stand Files
  pub acted : Stand Files
  pub work : Work
  pub owes : RunOwes purpose told faults before recorder history asked taken acted work

-- the device gave back what was written
abbrev pub IsGivenBack : {V : Type 0} {purpose : Purpose} → ActedRun V purpose → Type 0
IsGivenBack run = IsFaithful (sizes_in run.asked) run.recorder.log

-- one run is by a crew. The other one isn't: it is handed the turns which the crew stored. Both have the same sizes, draws,
-- keys, drops and threshold, and their loads were given the same envelopes at each place of the batch
pub record IsReplayed {U V : Type 0} {purpose : Purpose} (one : ActedRun U purpose) (other : ActedRun V purpose) : Type 0 where
  pub crew : runs_crew one.asked.job ≡ true
  pub turned : runs_crew other.asked.job ≡ false
  pub turns : other.asked.turns ≡ turns_by one.asked one.history
  pub sizes : sizes_in other.asked ≡ sizes_in one.asked
  pub draws : other.asked.draws ≡ one.asked.draws
  pub keys : other.asked.keys ≡ one.asked.keys
  pub drops : other.asked.drops ≡ one.asked.drops
  pub threshold : number_of other.asked.job field.T ≡ number_of one.asked.job field.T
  pub batch : other.asked.batch ≡ one.asked.batch
  pub given : other.owes.given ≡ one.owes.given

-- ---- what it left

-- what is written to some files of a work
abbrev pub written_to : (Sink → Bool) → Work → List (List ℕ)
written_to wanted work = filter_map (λ (write : Write). if wanted write.sink then Some write.bytes else None) work.writes

-- the output
abbrev pub is_output : Sink → Bool
is_output sink.Output = true
is_output _ = false

-- the trace file
abbrev pub is_trace : Sink → Bool
is_trace sink.Trace = true
is_trace _ = false

-- the job names a file for the accesses
abbrev pub NamesTrace : Asked → Type 0
NamesTrace asked = IsSome (name_at asked.job field.Trace)

-- both runs made the same accesses, write the same bytes to their outputs and to their trace files, and print the same lines
pub record LeaveTheSame {U V : Type 0} {purpose : Purpose} (one : ActedRun U purpose) (other : ActedRun V purpose) : Type 0 where
  pub accesses : other.recorder.trace ≡ one.recorder.trace
  pub output : written_to is_output other.work ≡ written_to is_output one.work
  pub trace : NamesTrace one.asked → NamesTrace other.asked → written_to is_trace other.work ≡ written_to is_trace one.work
  pub lines : other.work.prints ≡ one.work.prints

-- ---- the turns file

-- the turns file of a run by a crew
abbrev pub turns_left : {V : Type 0} {purpose : Purpose} → ActedRun V purpose → List ℕ
turns_left run = turns_bytes (lists (sizes_in run.asked).workers run.history)

-- a run by a crew began an attempt, its sizes keep their limits, and it stored no more turns than a turns file may have
pub record MayBeRead {V : Type 0} {purpose : Purpose} (run : ActedRun V purpose) : Type 0 where
  pub crew : runs_crew run.asked.job ≡ true
  pub planned : ArePlanned (sizes_in run.asked)
  pub begun : IsBegun run.asked run.history
  pub few : number_of_turns (lists (sizes_in run.asked).workers run.history) ≤ 4194304
