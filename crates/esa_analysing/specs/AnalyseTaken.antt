-- What analyse has taken in, and what it has counted.
use Rattle.esa_job.specs.declared.field.JobField.TheVariants as field
use Rattle.esa_job.specs.Seen.{request_of}
use Rattle.esa_analysing.specs.declared.analyse_command.AnalyseInput.{AnalyseInput}
use Rattle.esa_analysing.specs.declared.analyse_command.AnalyseCount.{AnalyseCount}
use Rattle.esa_analysing.specs.Analyse.{analyse_master_work, database_work}
use Rattle.esa_command.specs.Taking.{name_of}
use Rattle.esa_command.specs.Work.{Work}

-- what is to be done with what analyse took in
abbrev pub analyse_taken : AnalyseInput → Work
analyse_taken input = analyse_master_work (request_of input.job) input.master input.forwarded

-- what is to be done with what it counted
abbrev pub analyse_counted : AnalyseCount → Work
analyse_counted count = database_work (name_of (request_of count.job) field.Output) count.analysis.form count.analysis.database
