-- What intake has taken in.
use Rattle.esa_job.specs.Request.{Request}
use Rattle.esa_job.specs.Seen.{request_of}
use Rattle.esa_batcher.specs.Batched.{Batched}
use Rattle.esa_gathering.specs.declared.intake_command.IntakeInput.{IntakeInput}

abbrev pub intake_taken : IntakeInput → Request × Batched
intake_taken input = (request_of input.job, input.batch)
