-- What plan has taken in.
use Rattle.esa_job.specs.declared.field.JobField.TheVariants as field
use Rattle.esa_job.specs.Request.{name_at}
use Rattle.esa_job.specs.Seen.{request_of}
use Rattle.esa_command.specs.Work.{Work}
use Rattle.esa_shuffling.specs.declared.plan_command.PlanInput.{PlanInput}
use Rattle.esa_shuffling.specs.Drawn.{draws_of}
use Rattle.esa_shuffling.specs.Plan.{plan_work}
use Rattle.esa_shuffling.specs.Shuffle.{sizes_asked}

-- what is to be done with it
abbrev pub plan_taken : PlanInput → Work
plan_taken input = plan_work (name_at (request_of input.job) field.Trace) (sizes_asked (request_of input.job)) input.turns (draws_of input.coins)
