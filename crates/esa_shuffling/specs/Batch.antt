-- What batch takes in, writes and prints.
use Rattle.std.specs.Prelude.{◌≡◌, ℕ, Bool, nat_lt, if◌then◌else◌, List, [], ◌∷◌, length, codes, Result, Ok, Err}
use Rattle.esa_params.specs.declared.form.Form.{Form}
use Rattle.esa_job.specs.declared.command.Command.TheVariants as command
use Rattle.esa_job.specs.declared.field.JobField.TheVariants as field
use Rattle.esa_job.specs.Request.{Request}
use Rattle.esa_batcher.specs.declared.refused.AddRefused.{AddRefused}
use Rattle.esa_batcher.specs.declared.refused.BatchRefused.TheVariants as batch
use Rattle.esa_batcher.specs.Batched.{Batched, batch_bytes}
use Rattle.esa_batcher.specs.Finishing.{batch_of}
use Rattle.esa_batcher.specs.Submitted.{submitted}
use Rattle.esa_refusal.specs.declared.refusal.Refusal.{Refusal}
use Rattle.esa_refusal.specs.declared.refusal.Refusal.TheVariants as refusal
use Rattle.esa_refusal.specs.declared.source.Source.TheVariants as source
use Rattle.esa_refusal.specs.declared.source.Sink.TheVariants.{Output}
use Rattle.esa_refusal.specs.declared.status.Status.TheVariants as status
use Rattle.esa_refusal.specs.declared.stop.Stop.{Stop}
use Rattle.esa_refusal.specs.declared.stop.Stop.TheVariants.{Refused, Unread, OutOfMemory}
use Rattle.esa_refusal.specs.Refusal.{IsOfInput, numbered}
use Rattle.esa_refusal.specs.Stop.{add_refusal}
use Rattle.esa_command.specs.Asked.{number_of, form_asked}
use Rattle.esa_command.specs.Step.{Step, ◌>>=◌, accepted, step_of, Reads, file}
use Rattle.esa_command.specs.Taking.{name_of, job_file}
use Rattle.esa_command.specs.Work.{Work}

-- ---- the batch of a file of submissions

-- what submissions are refused for first, or their batch
abbrev pub batched_by : Form → (epoch m : ℕ) → Result (List (List ℕ)) AddRefused → Result Batched Refusal
batched_by form epoch m (Err why) = Err (add_refusal why)
batched_by form epoch m (Ok envelopes) =
    if nat_lt (length envelopes) m then Err (refusal.Batch (batch.TooFew (length envelopes) m)) else Ok (batch_of form epoch envelopes)

-- the batch of the submissions of a form, under an epoch, of at least m records, or the first refusal
abbrev pub batched : Form → (epoch m : ℕ) → List ℕ → Result Batched Refusal
batched form epoch m bytes = batched_by form epoch m (submitted form bytes)

-- why batching stops, by that definition
abbrev pub StopsBatching : Result Batched Refusal → Stop → Type 0
StopsBatching made (Refused why) = (made ≡ Err why) × IsOfInput why
StopsBatching made (Unread source) = ⊥
StopsBatching made OutOfMemory = Unit {0}

-- ---- the steps

-- the submissions of a job
unfoldable pub submissions_file : Request → Reads → Step Batched
submissions_file job read =
    file command.Batch source.Input (name_of job field.Input) read
    >>= λ bytes. step_of (batched (form_asked job) (number_of job field.Epoch) (number_of job field.M) bytes)

-- with the job: its submissions
abbrev pub batch_asked : Reads → Request → Step (Request × Batched)
batch_asked read job = submissions_file job read >>= λ made. accepted (job, made)

-- the job and its submissions
unfoldable pub batch_input : Bool → List ℕ → Reads → Step (Request × Batched)
batch_input crew_allowed name read = job_file command.Batch crew_allowed name read >>= batch_asked read

-- the batch is written, and the number of its records is printed
abbrev pub batched_text : Batched → List ℕ
batched_text made = numbered (codes "batched ") (length made.list)

abbrev pub batch_file_work : List ℕ → Batched → Work
batch_file_work output made = record {
  ended = status.Ok;
  writes = record { sink = Output; name = output; bytes = batch_bytes made } ∷ [];
  prints = batched_text made ∷ [];
}

abbrev pub batch_work : Request × Batched → Work
batch_work taken = batch_file_work (name_of taken.0 field.Output) taken.1

-- batch: the job and its submissions
abbrev pub batch_steps : Bool → List ℕ → Reads → Step Work
batch_steps crew_allowed name read = batch_input crew_allowed name read >>= λ taken. accepted (batch_work taken)
