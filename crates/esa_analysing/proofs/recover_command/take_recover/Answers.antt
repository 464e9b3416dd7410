use Rattle.std.proofs.Common.{◌≡◌, Ok, Err, cond, nat_lt, false, true, sym, ap, ◌∙◌, arith}
use Rattle.std.proofs.lemmas.Result.{err_from_is_err_and}
use Rattle.esa_job.specs.Seen.{request_of}
use Rattle.esa_job.specs.declared.command.Command.TheVariants.{Recover}
use Rattle.esa_job.specs.declared.field.JobField.TheVariants as field
use Rattle.esa_recovery.specs.Recovered.{total}
use Rattle.esa_refusal.specs.declared.refusal.Refusal.TheVariants.{SharesSum}
use Rattle.esa_refusal.specs.declared.stop.Stop.TheVariants.{Refused, OutOfMemory}
use Rattle.esa_command.specs.Stand.{stand}
use Rattle.esa_command.specs.Step.{accepted, refused}
use Rattle.esa_command.specs.Taking.{name_of}
use Rattle.esa_command.proofs.Composition.{judged_stop, judged_made, judged_refused, judged_starved, judged_wider}
use Rattle.esa_analysing.specs.declared.recover_command.RecoverInput.{RecoverInput}
use Rattle.esa_analysing.specs.Analyse.{database_work}
use Rattle.esa_analysing.specs.Database.{database_input}
use Rattle.esa_analysing.specs.DatabaseTaken.{database_taken}
use Rattle.esa_analysing.specs.Recover.{recover_steps, recover_work, recover_asked}
use Rattle.esa_analysing.specs.RecoverTaken.{recover_taken}
use Rattle.esa_analysing.proofs.Recovering.{sum_fits, sum_passes}
use Rattle.esa_analysing.proofs.recover_command.take_recover.Goals as goal

pub returns-in_err-job-clause-judged : goal.returns-in_err-job-clause-judged
returns-in_err-job-clause-judged g c =
    let p = err_from_is_err_and c.from_residual.result c.from_residual.ensures.1 in
    let stands = stand g.K.Cabinet.told g.K.Cabinet.faults g.K.Cabinet.heard in
    rw (p.1, p.2) (judged_stop 0 0 5 6 database_taken recover_taken (database_input Recover c.args.crew_allowed c.args.name.now) (λ _ all. recover_asked all)
    (stands c.args.cabinet.now) (stands c.take_job_and_database.new.cabinet) c.in_err-job.field-0.0 (omega arith) c.in_err-job.ensures.judged)

pub returns-in-Ok-clause-judged : goal.returns-in-Ok-clause-judged
returns-in-Ok-clause-judged g c =
    let stands = stand g.K.Cabinet.told g.K.Cabinet.faults g.K.Cabinet.heard in
    let input = c.in_ok-job.field-0 in
    let steps = recover_steps c.args.crew_allowed c.args.name.now in
    let made : RecoverInput = record { job = input.job; recovered = c.in-Ok.recovered } in
    let sum = total input.db.database in
    let work = recover_work (database_taken input) in
    let output = name_of (request_of input.job) field.Output in
    let fits : nat_lt 4294967295 sum ≡ false = sum_fits c.in-Ok.recovered sum c.in-Ok.ensures.sum in
    let same : work ≡ recover_taken made = ap (λ stored. database_work output stored.form stored.database) (sym c.in-Ok.ensures.recovered) in
    judged_wider 0 5 6 recover_taken steps (stands c.args.cabinet.now) (stands c.take_job_and_database.new.cabinet) (Ok made) (omega arith)
    (judged_made 0 5 database_taken recover_taken (database_input Recover c.args.crew_allowed c.args.name.now) recover_asked input
    (stands c.args.cabinet.now) (stands c.take_job_and_database.new.cabinet) c.in_ok-job.ensures.judged made
    (ap (λ past. cond past (refused SharesSum) (accepted work)) fits ∙ ap accepted same))

pub returns-in-Err-Sum-clause-judged : goal.returns-in-Err-Sum-clause-judged
returns-in-Err-Sum-clause-judged g c =
    let stands = stand g.K.Cabinet.told g.K.Cabinet.faults g.K.Cabinet.heard in
    let input = c.in_ok-job.field-0 in
    let steps = recover_steps c.args.crew_allowed c.args.name.now in
    let sum = total input.db.database in
    let passes : nat_lt 4294967295 sum ≡ true = sum_passes sum (c.in-Err-Sum.ensures.sum.0 (ap Err c.in-Err-Sum.field-0-is)) in
    judged_wider 0 5 6 recover_taken steps (stands c.args.cabinet.now) (stands c.take_job_and_database.new.cabinet) (Err (Refused SharesSum)) (omega arith)
    (judged_refused 0 5 database_taken recover_taken (database_input Recover c.args.crew_allowed c.args.name.now) recover_asked input
    (stands c.args.cabinet.now) (stands c.take_job_and_database.new.cabinet) c.in_ok-job.ensures.judged SharesSum
    (ap (λ past. cond past (refused SharesSum) (accepted (recover_work (database_taken input)))) passes) tt)

pub returns-clause-judged : goal.returns-clause-judged
returns-clause-judged g c =
    let stands = stand g.K.Cabinet.told g.K.Cabinet.faults g.K.Cabinet.heard in
    let steps = recover_steps c.args.crew_allowed c.args.name.now in
    judged_wider 0 5 6 recover_taken steps (stands c.args.cabinet.now) (stands c.take_job_and_database.new.cabinet) (Err OutOfMemory) (omega arith)
    (judged_starved 0 5 database_taken recover_taken (database_input Recover c.args.crew_allowed c.args.name.now) recover_asked c.in_ok-job.field-0
    (stands c.args.cabinet.now) (stands c.take_job_and_database.new.cabinet) c.in_ok-job.ensures.judged)
