-- What recover takes in, writes and prints.
use Rattle.std.specs.Prelude.{ℕ, Bool, nat_lt, if◌then◌else◌, List}
use Rattle.esa_job.specs.declared.command.Command.TheVariants.{Recover}
use Rattle.esa_job.specs.declared.field.JobField.TheVariants as field
use Rattle.esa_job.specs.Request.{Request}
use Rattle.esa_analyser.specs.Stored.{Stored}
use Rattle.esa_recovery.specs.Recovered.{recovered_database, total}
use Rattle.esa_refusal.specs.declared.refusal.Refusal.TheVariants.{SharesSum}
use Rattle.esa_command.specs.Step.{Step, ◌>>=◌, accepted, refused, Reads}
use Rattle.esa_command.specs.Taking.{name_of}
use Rattle.esa_command.specs.Work.{Work}
use Rattle.esa_analysing.specs.Analyse.{database_work}
use Rattle.esa_analysing.specs.Database.{database_input}

-- the database of what the rows mean is written, in the version that was read
abbrev pub recover_work : Request × Stored → Work
recover_work input = database_work (name_of input.0 field.Output) input.1.form (recovered_database input.1.database)

-- A sum of counts is a count again, so all of them and the number unopened may come to no more than a count may.
abbrev pub recover_asked : Request × Stored → Step Work
recover_asked input = if nat_lt 4294967295 (total input.1.database) then refused SharesSum else accepted (recover_work input)

-- recover: the job and its database file
abbrev pub recover_steps : Bool → List ℕ → Reads → Step Work
recover_steps crew_allowed name read = database_input Recover crew_allowed name read >>= recover_asked
