-- The files that several commands take in, each a step.
use Rattle.std.specs.Prelude.{ℕ, Bool, List, [], Result, Ok, Err, unwrap_or}
use Rattle.esa_job.specs.declared.command.Command.{Command}
use Rattle.esa_job.specs.declared.field.JobField.{JobField}
use Rattle.esa_job.specs.declared.field.JobField.TheVariants as field
use Rattle.esa_job.specs.Request.{Request, name_at}
use Rattle.esa_job.specs.Refusal.{job_of}
use Rattle.esa_job.specs.Keys.{Ring, keys_of}
use Rattle.esa_refusal.specs.declared.source.Source.TheVariants as source
use Rattle.esa_refusal.specs.declared.refusal.Refusal.{Refusal}
use Rattle.esa_refusal.specs.Stop.{job_refusal, keys_refusal}
use Rattle.esa_command.specs.Step.{Step, ◌>>=◌, accepted, refused, Reads, file}

-- the name at a field that the command needs
abbrev pub name_of : Request → JobField → List ℕ
name_of request field = unwrap_or (name_at request field) []

-- what a file's bytes are read as, or what they are refused for
abbrev pub read_step : {A E : Type 0} → (E → Refusal) → Result A E → Step A
read_step why (Ok value) = accepted value
read_step why (Err error) = refused (why error)

-- the job file of this name
unfoldable pub job_file : Command → Bool → List ℕ → Reads → Step Request
job_file command crew_allowed name read =
    file command source.Job name read >>= λ text. read_step job_refusal (job_of command crew_allowed name text)

-- the keys file of a job
unfoldable pub keys_file : Command → Bool → Request → Reads → Step Ring
keys_file command shares request read =
    file command source.Keys (name_of request field.Keys) read >>= λ text. read_step keys_refusal (keys_of command shares text)
