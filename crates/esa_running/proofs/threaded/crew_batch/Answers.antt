use Rattle.std.proofs.Common.{refl}
use Rattle.esa_job.specs.Seen.{request_of}
use Rattle.esa_job.specs.declared.field.JobField.TheVariants as field
use Rattle.esa_taking.proofs.Needed.{needs}
use Rattle.esa_running.proofs.threaded.crew_batch.Goals as goal

pub input-requires : goal.input-requires
input-requires g c = needs field.Input (request_of c.args.input.now.job).command (request_of c.args.input.now.job).command refl c.requires.taken.shuffles refl refl
