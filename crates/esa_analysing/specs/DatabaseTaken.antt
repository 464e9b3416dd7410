-- What the commands have taken in that read a database.
use Rattle.esa_job.specs.Request.{Request}
use Rattle.esa_job.specs.Seen.{request_of}
use Rattle.esa_analyser.specs.Stored.{Stored}
use Rattle.esa_analysing.specs.declared.database.DatabaseInput.{DatabaseInput}

abbrev pub database_taken : DatabaseInput → Request × Stored
database_taken input = (request_of input.job, input.db)
