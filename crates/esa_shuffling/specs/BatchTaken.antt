-- What batch has taken in.
use Rattle.esa_job.specs.Request.{Request}
use Rattle.esa_job.specs.Seen.{request_of}
use Rattle.esa_batcher.specs.Batched.{Batched}
use Rattle.esa_shuffling.specs.declared.batch_command.BatchInput.{BatchInput}

abbrev pub batch_taken : BatchInput → Request × Batched
batch_taken input = (request_of input.job, input.batch)
