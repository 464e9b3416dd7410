use Rattle.std.proofs.Common.{Some, refl, ap, ◌∙◌}
use Rattle.esa_job.specs.Seen.{request_of}
use Rattle.esa_job.specs.declared.field.JobField.TheVariants as field
use Rattle.esa_taking.proofs.Modes.{runs, runs_not}
use Rattle.esa_taking.proofs.Needed.{needs}
use Rattle.esa_running.proofs.threaded.act_as_asked.Goals as goal

pub mode-requires : goal.mode-requires
mode-requires g c = needs field.Mode (request_of c.args.input.now.job).command (request_of c.args.input.now.job).command refl c.requires.taken.shuffles refl refl

pub act_by_crew-requires-clause-mode : goal.act_by_crew-requires-clause-mode
act_by_crew-requires-clause-mode g c = λ lives outlive. runs (request_of c.args.input.now.job) (c.mode.ensures ∙ ap Some c.in-Crew.is)

pub act-requires-clause-mode : goal.act-requires-clause-mode
act-requires-clause-mode g c = runs_not (request_of c.args.input.now.job) (c.mode.ensures ∙ ap Some c.in-Turns.is)
