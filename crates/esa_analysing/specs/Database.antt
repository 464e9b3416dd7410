-- What the commands take in that read a database.
use Rattle.std.specs.Prelude.{ℕ, Bool, List}
use Rattle.esa_job.specs.declared.command.Command.{Command}
use Rattle.esa_job.specs.declared.field.JobField.TheVariants as field
use Rattle.esa_job.specs.Request.{Request}
use Rattle.esa_analyser.specs.Reading.{database_in}
use Rattle.esa_analyser.specs.Stored.{Stored}
use Rattle.esa_refusal.specs.declared.refusal.Refusal.TheVariants as refusal
use Rattle.esa_refusal.specs.declared.source.Source.TheVariants as source
use Rattle.esa_command.specs.Step.{Step, ◌>>=◌, accepted, Reads, file}
use Rattle.esa_command.specs.Taking.{name_of, read_step, job_file}

-- the database file of a job
unfoldable pub database_file : Command → Request → Reads → Step Stored
database_file command request read =
    file command source.Input (name_of request field.Input) read >>= λ bytes. read_step refusal.Database (database_in bytes)

-- with the job: its database file
abbrev pub database_asked : Command → Reads → Request → Step (Request × Stored)
database_asked command read job = database_file command job read >>= λ stored. accepted (job, stored)

-- the job and its database file
unfoldable pub database_input : Command → Bool → List ℕ → Reads → Step (Request × Stored)
database_input command crew_allowed name read = job_file command crew_allowed name read >>= database_asked command read
