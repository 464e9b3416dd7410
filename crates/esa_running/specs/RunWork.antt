-- What run and shuffle leave: their files and their lines.
use Rattle.std.specs.Prelude.{ℕ, ◌<◌, ◌^◌, All, List, [], ◌∷◌, ◌++◌, length, codes, Option, Some, None}
use Rattle.esa_params.specs.declared.slot.Access.{Access}
use Rattle.esa_spec.specs.Files.{turns_bytes}
use Rattle.esa_spec.specs.Histories.{lists}
use Rattle.esa_job.specs.declared.field.JobField.TheVariants as field
use Rattle.esa_job.specs.Request.{Request, name_at}
use Rattle.esa_analyser.specs.Database.{Database}
use Rattle.esa_analyser.specs.Opened.{database_of}
use Rattle.esa_analyser.specs.Rows.{database_bytes}
use Rattle.esa_refusal.specs.declared.source.Sink.TheVariants.{Output, TurnsOut}
use Rattle.esa_refusal.specs.declared.status.Status.TheVariants as status
use Rattle.esa_refusal.specs.Refusal.{numbered}
use Rattle.esa_threshold.specs.Forward.{forward_bytes}
use Rattle.esa_command.specs.Taking.{name_of}
use Rattle.esa_command.specs.Work.{Work, Write}
use Rattle.esa_shuffling.specs.Plan.{trace_writes}
use Rattle.esa_running.specs.declared.purpose.Purpose.{Purpose}
use Rattle.esa_running.specs.declared.purpose.Purpose.TheVariants.{Count, HandOn}
use Rattle.esa_taking.specs.Run.{Asked}
use Rattle.esa_taking.specs.StoredTurns.{IsHistory}
use Rattle.esa_taking.specs.Wanted.{sizes_in, inner_keys}

-- ---- files

-- turns are written where the job names a file for them
abbrev pub turns_writes : Option (List ℕ) → List (List ℕ) → List Write
turns_writes None turns = []
turns_writes (Some name) turns = record { sink = TurnsOut; name = name; bytes = turns_bytes turns } ∷ []

-- what tells how a shuffle went: its accesses, and the turns of each attempt
abbrev pub record_writes : Request → List Access → List (List ℕ) → List Write
record_writes job accesses turns = trace_writes (name_at job field.Trace) accesses ++ turns_writes (name_at job field.TurnsOut) turns

-- by its history
abbrev pub records_of : Asked → List Access → List ℕ → List Write
records_of asked accesses history = record_writes asked.job accesses (lists (sizes_in asked).workers history)

-- attempts and number of the accesses have room in the trace file, and the history is one
pub record FitFiles (owner : ℕ) (accesses : List Access) (history : List ℕ) : Type 0 where
  pub attempts : All (λ access. access.attempt < 256) accesses
  pub number : length accesses < 2 ^ 32
  pub turns : IsHistory owner history

-- the output file: the database of the envelopes that are forwarded, or the forward file that hands them on
abbrev pub output_for : Purpose → Asked → List (List ℕ) → List ℕ
output_for Count asked envelopes = database_bytes asked.batch.form (database_of (inner_keys asked) envelopes)
output_for HandOn asked envelopes = forward_bytes asked.batch.form asked.batch.epoch envelopes

abbrev pub output_write : Request → List ℕ → Write
output_write job bytes = record { sink = Output; name = name_of job field.Output; bytes = bytes }

-- ---- lines

-- the numbers of a shuffle that succeeded: its good attempt, its records, and how many of them are forwarded
abbrev pub shuffled_text : (attempt records forwarded : ℕ) → List ℕ
shuffled_text attempt records forwarded = numbered (codes "ok attempt ") attempt ++ numbered (codes " records ") records ++ numbered (codes " forwarded ") forwarded

-- how many accesses it made
abbrev pub made_text : ℕ → List ℕ
made_text accesses = numbered (codes " accesses ") accesses

-- the numbers of a database
abbrev pub holds_text : Database → List ℕ
holds_text database = numbered (codes " rows ") (length database.rows) ++ numbered (codes " unopened ") database.unopened

-- the line of a shuffle that succeeded
abbrev pub line_for : Purpose → Asked → (attempt : ℕ) → List (List ℕ) → (accesses : ℕ) → List ℕ
line_for Count asked attempt envelopes accesses =
    shuffled_text attempt asked.batch.count (length envelopes) ++ (holds_text (database_of (inner_keys asked) envelopes) ++ made_text accesses)
line_for HandOn asked attempt envelopes accesses = shuffled_text attempt asked.batch.count (length envelopes) ++ made_text accesses

-- ---- the work

-- these files are written, and this line is printed
abbrev pub well_work : List Write → List ℕ → Work
well_work writes line = record { ended = status.Ok; writes = writes; prints = line ∷ [] }

-- a shuffle that succeeded, of whose output these envelopes are forwarded, writes its output first
abbrev pub success_work : Purpose → Asked → (attempt : ℕ) → List (List ℕ) → List Access → List ℕ → Work
success_work purpose asked attempt envelopes accesses history =
    well_work (output_write asked.job (output_for purpose asked envelopes) ∷ records_of asked accesses history) (line_for purpose asked attempt envelopes (length accesses))
