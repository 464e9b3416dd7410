use Rattle.std.proofs.Common.{Ok, Err, refl, subst, arith}
use Rattle.std.proofs.lemmas.Result.{err_from_is_err_and}
use Rattle.esa_job.specs.Seen.{request_of}
use Rattle.esa_job.specs.declared.command.Command.TheVariants.{Plan}
use Rattle.esa_command.specs.Judged.{Judged}
use Rattle.esa_command.specs.Stand.{stand}
use Rattle.esa_command.specs.Taking.{job_file}
use Rattle.esa_command.proofs.Composition.{judged_stop, judged_then, judged_made}
use Rattle.esa_shuffling.specs.declared.plan_command.PlanInput.{PlanInput}
use Rattle.esa_shuffling.specs.Drawn.{draws_of}
use Rattle.esa_shuffling.specs.Plan.{plan_steps, plan_asked, plan_turned, plan_drawn}
use Rattle.esa_shuffling.specs.PlanTaken.{plan_taken}
use Rattle.esa_shuffling.specs.Shuffle.{sizes_asked, turns_file, coins_file}
use Rattle.esa_shuffling.proofs.plan_command.take_plan.Goals as goal

pub returns-in_err-job-clause-judged : goal.returns-in_err-job-clause-judged
unfolding plan_steps
returns-in_err-job-clause-judged g c =
    let p = err_from_is_err_and c.from_residual.result c.from_residual.ensures.1 in
    let stands = stand g.K.Cabinet.told g.K.Cabinet.faults g.K.Cabinet.heard in
    rw (p.1, p.2) (judged_stop 0 0 1 6 request_of plan_taken (job_file Plan c.args.crew_allowed c.args.name.now) plan_asked
    (stands c.args.cabinet.now) (stands c.take_job.new.cabinet) c.in_err-job.field-0.0 (omega arith) c.in_err-job.ensures.judged)

pub returns-in_err-turns-clause-judged : goal.returns-in_err-turns-clause-judged
unfolding plan_steps
returns-in_err-turns-clause-judged g c =
    let p = err_from_is_err_and c.from_residual-in_err-turns.result c.from_residual-in_err-turns.ensures.1 in
    let stands = stand g.K.Cabinet.told g.K.Cabinet.faults g.K.Cabinet.heard in
    let job = request_of c.in_ok-job.job in
    let stop = c.in_err-turns.field-0.0 in
    rw (p.1, p.2) (judged_then 0 1 3 6 request_of plan_taken (job_file Plan c.args.crew_allowed c.args.name.now) plan_asked c.in_ok-job.job
    (stands c.args.cabinet.now) (stands c.take_job.new.cabinet) (stands c.take_turns.new.cabinet) (omega arith) c.in_ok-job.ensures.judged (Err stop)
    (judged_stop 3 3 4 6 (λ turns. turns) plan_taken (turns_file Plan job) (plan_turned job) (stands c.take_job.new.cabinet) (stands c.take_turns.new.cabinet) stop (omega arith) c.in_err-turns.ensures.judged))

pub returns-in_err-coins-clause-judged : goal.returns-in_err-coins-clause-judged
unfolding plan_steps
returns-in_err-coins-clause-judged g c =
    let p = err_from_is_err_and c.from_residual-in_err-coins.result c.from_residual-in_err-coins.ensures.1 in
    let stands = stand g.K.Cabinet.told g.K.Cabinet.faults g.K.Cabinet.heard in
    let job = request_of c.in_ok-job.job in
    let turns = c.in_ok-turns.turns in
    let stop = c.in_err-coins.field-0.0 in
    let judged = subst (λ p. Judged 5 6 draws_of (coins_file Plan p job) (stands c.take_turns.new.cabinet) (stands c.take_coins.new.cabinet) (Err stop)) c.plan_of.ensures.value c.in_err-coins.ensures.judged in
    rw (p.1, p.2) (judged_then 0 1 3 6 request_of plan_taken (job_file Plan c.args.crew_allowed c.args.name.now) plan_asked c.in_ok-job.job
    (stands c.args.cabinet.now) (stands c.take_job.new.cabinet) (stands c.take_coins.new.cabinet) (omega arith) c.in_ok-job.ensures.judged (Err stop)
    (judged_then 3 4 5 6 (λ turns. turns) plan_taken (turns_file Plan job) (plan_turned job) turns
    (stands c.take_job.new.cabinet) (stands c.take_turns.new.cabinet) (stands c.take_coins.new.cabinet) (omega arith) c.in_ok-turns.ensures.judged (Err stop)
    (judged_stop 5 5 6 6 draws_of plan_taken (coins_file Plan (sizes_asked job) job) (λ _. plan_drawn job turns)
    (stands c.take_turns.new.cabinet) (stands c.take_coins.new.cabinet) stop (omega arith) judged)))

pub returns-clause-judged : goal.returns-clause-judged
unfolding plan_steps
returns-clause-judged g c =
    let stands = stand g.K.Cabinet.told g.K.Cabinet.faults g.K.Cabinet.heard in
    let job = request_of c.in_ok-job.job in
    let turns = c.in_ok-turns.turns in
    let input : PlanInput = record { job = c.in_ok-job.job; turns = turns; coins = c.in_ok-coins.coins } in
    let judged = subst (λ p. Judged 5 6 draws_of (coins_file Plan p job) (stands c.take_turns.new.cabinet) (stands c.take_coins.new.cabinet) (Ok c.in_ok-coins.coins)) c.plan_of.ensures.value c.in_ok-coins.ensures.judged in
    judged_then 0 1 3 6 request_of plan_taken (job_file Plan c.args.crew_allowed c.args.name.now) plan_asked c.in_ok-job.job
    (stands c.args.cabinet.now) (stands c.take_job.new.cabinet) (stands c.take_coins.new.cabinet) (omega arith) c.in_ok-job.ensures.judged (Ok input)
    (judged_then 3 4 5 6 (λ turns. turns) plan_taken (turns_file Plan job) (plan_turned job) turns
    (stands c.take_job.new.cabinet) (stands c.take_turns.new.cabinet) (stands c.take_coins.new.cabinet) (omega arith) c.in_ok-turns.ensures.judged (Ok input)
    (judged_made 5 6 draws_of plan_taken (coins_file Plan (sizes_asked job) job) (plan_drawn job turns) c.in_ok-coins.coins
    (stands c.take_turns.new.cabinet) (stands c.take_coins.new.cabinet) judged input refl))
