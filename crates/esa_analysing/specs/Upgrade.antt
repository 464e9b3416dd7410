-- What upgrade takes in, writes and prints.
use Rattle.std.specs.Prelude.{ℕ, Bool, List}
use Rattle.esa_params.specs.declared.form.Form.TheVariants.{Two}
use Rattle.esa_job.specs.declared.command.Command.TheVariants.{Upgrade}
use Rattle.esa_job.specs.declared.field.JobField.TheVariants as field
use Rattle.esa_job.specs.Request.{Request}
use Rattle.esa_analyser.specs.Stored.{Stored}
use Rattle.esa_command.specs.Step.{Step, ◌>>=◌, accepted, Reads}
use Rattle.esa_command.specs.Taking.{name_of}
use Rattle.esa_command.specs.Work.{Work}
use Rattle.esa_analysing.specs.Analyse.{database_work}
use Rattle.esa_analysing.specs.Database.{database_input}

-- the same rows are written in version 2
abbrev pub upgrade_work : Request × Stored → Work
upgrade_work input = database_work (name_of input.0 field.Output) Two input.1.database

-- upgrade: the job and its database file
abbrev pub upgrade_steps : Bool → List ℕ → Reads → Step Work
upgrade_steps crew_allowed name read = database_input Upgrade crew_allowed name read >>= λ input. accepted (upgrade_work input)
