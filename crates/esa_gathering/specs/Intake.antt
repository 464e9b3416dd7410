-- What intake takes in, writes and prints.
use Rattle.std.specs.Prelude.{ℕ, ◌+◌, Bool, List, [], ◌∷◌}
use Rattle.esa_job.specs.declared.command.Command.TheVariants as command
use Rattle.esa_job.specs.declared.field.JobField.TheVariants as field
use Rattle.esa_job.specs.Request.{Request, inputs_at}
use Rattle.esa_batcher.specs.Batched.{Batched}
use Rattle.esa_refusal.specs.declared.source.Source.TheVariants as source
use Rattle.esa_command.specs.Asked.{number_of, form_asked}
use Rattle.esa_command.specs.Step.{Step, ◌>>=◌, accepted, step_of, Reads, file}
use Rattle.esa_command.specs.Taking.{job_file}
use Rattle.esa_command.specs.Work.{Work}
use Rattle.esa_shuffling.specs.Batch.{batch_work}
use Rattle.esa_gathering.specs.Together.{batched_together}

-- the files of these names, one after another, the first in this place of the inputs
unfoldable pub input_files : (place : ℕ) → List (List ℕ) → Reads → Step (List (List ℕ))
input_files place [] read = accepted []
input_files place (name ∷ names) read =
    file command.Intake (source.Inputs place) name read >>= λ text. input_files (place + 1) names read >>= λ texts. accepted (text ∷ texts)

-- the batch of all lines that they hold
abbrev pub together : Request → List (List ℕ) → Step Batched
together job texts = step_of (batched_together (form_asked job) (number_of job field.Epoch) (number_of job field.M) texts)

-- the inputs of a job
unfoldable pub inputs_batched : Request → Reads → Step Batched
inputs_batched job read = input_files 0 (inputs_at job) read >>= together job

-- with the job: its inputs
abbrev pub intake_asked : Reads → Request → Step (Request × Batched)
intake_asked read job = inputs_batched job read >>= λ made. accepted (job, made)

-- the job and its inputs
unfoldable pub intake_input : Bool → List ℕ → Reads → Step (Request × Batched)
intake_input crew_allowed name read = job_file command.Intake crew_allowed name read >>= intake_asked read

-- intake: the batch is written, and the number of its records is printed
abbrev pub intake_steps : Bool → List ℕ → Reads → Step Work
intake_steps crew_allowed name read = intake_input crew_allowed name read >>= λ taken. accepted (batch_work taken)
