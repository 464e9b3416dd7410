use Rattle.std.proofs.Common.{Ok, Err, refl, arith}
use Rattle.std.proofs.lemmas.Result.{err_from_is_err_and}
use Rattle.esa_job.specs.Seen.{request_of}
use Rattle.esa_job.specs.declared.command.Command.TheVariants.{Intake}
use Rattle.esa_command.specs.Stand.{stand}
use Rattle.esa_command.specs.Step.{accepted}
use Rattle.esa_command.specs.Taking.{job_file}
use Rattle.esa_command.proofs.Composition.{judged_stop, judged_then, judged_made}
use Rattle.esa_gathering.specs.declared.intake_command.IntakeInput.{IntakeInput}
use Rattle.esa_gathering.specs.Intake.{intake_input, intake_asked, inputs_batched}
use Rattle.esa_gathering.specs.IntakeTaken.{intake_taken}
use Rattle.esa_gathering.proofs.intake_command.take_intake.Goals as goal

pub returns-in_err-job-clause-judged : goal.returns-in_err-job-clause-judged
unfolding intake_input
returns-in_err-job-clause-judged g c =
    let p = err_from_is_err_and c.from_residual.result c.from_residual.ensures.1 in
    let stands = stand g.K.Cabinet.told g.K.Cabinet.faults g.K.Cabinet.heard in
    rw (p.1, p.2) (judged_stop 0 0 1 22 request_of intake_taken (job_file Intake c.args.crew_allowed c.args.name.now) intake_asked
    (stands c.args.cabinet.now) (stands c.take_job.new.cabinet) c.in_err-job.field-0.0 (omega arith) c.in_err-job.ensures.judged)

pub returns-in_err-batch-clause-judged : goal.returns-in_err-batch-clause-judged
unfolding intake_input
returns-in_err-batch-clause-judged g c =
    let p = err_from_is_err_and c.from_residual-in_err-batch.result c.from_residual-in_err-batch.ensures.1 in
    let stands = stand g.K.Cabinet.told g.K.Cabinet.faults g.K.Cabinet.heard in
    let job = request_of c.in_ok-job.job in
    let stop = c.in_err-batch.field-0.0 in
    rw (p.1, p.2) (judged_then 0 1 6 22 request_of intake_taken (job_file Intake c.args.crew_allowed c.args.name.now) intake_asked c.in_ok-job.job
    (stands c.args.cabinet.now) (stands c.take_job.new.cabinet) (stands c.take_inputs.new.cabinet) (omega arith) c.in_ok-job.ensures.judged (Err stop)
    (judged_stop 6 6 22 22 (λ batch. batch) intake_taken (inputs_batched job) (λ read made. accepted (job, made))
    (stands c.take_job.new.cabinet) (stands c.take_inputs.new.cabinet) stop (omega arith) c.in_err-batch.ensures))

pub returns-clause-judged : goal.returns-clause-judged
unfolding intake_input
returns-clause-judged g c =
    let stands = stand g.K.Cabinet.told g.K.Cabinet.faults g.K.Cabinet.heard in
    let job = request_of c.in_ok-job.job in
    let input : IntakeInput = record { job = c.in_ok-job.job; batch = c.in_ok-batch.batch } in
    judged_then 0 1 6 22 request_of intake_taken (job_file Intake c.args.crew_allowed c.args.name.now) intake_asked c.in_ok-job.job
    (stands c.args.cabinet.now) (stands c.take_job.new.cabinet) (stands c.take_inputs.new.cabinet) (omega arith) c.in_ok-job.ensures.judged (Ok input)
    (judged_made 6 22 (λ batch. batch) intake_taken (inputs_batched job) (λ made. accepted (job, made)) c.in_ok-batch.batch
    (stands c.take_job.new.cabinet) (stands c.take_inputs.new.cabinet) c.in_ok-batch.ensures input refl)
