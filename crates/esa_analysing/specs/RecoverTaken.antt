-- What recover has taken in.
use Rattle.esa_job.specs.declared.field.JobField.TheVariants as field
use Rattle.esa_job.specs.Seen.{request_of}
use Rattle.esa_command.specs.Taking.{name_of}
use Rattle.esa_command.specs.Work.{Work}
use Rattle.esa_analysing.specs.declared.recover_command.RecoverInput.{RecoverInput}
use Rattle.esa_analysing.specs.Analyse.{database_work}

-- what is to be done with it
abbrev pub recover_taken : RecoverInput → Work
recover_taken input = database_work (name_of (request_of input.job) field.Output) input.recovered.form input.recovered.database
