use Rattle.std.proofs.Common.{Ok, Err, refl, arith}
use Rattle.std.proofs.lemmas.Result.{err_from_is_err_and}
use Rattle.esa_job.specs.Seen.{request_of}
use Rattle.esa_command.specs.Stand.{stand}
use Rattle.esa_command.specs.Step.{accepted}
use Rattle.esa_command.specs.Taking.{job_file}
use Rattle.esa_command.proofs.Composition.{judged_stop, judged_then, judged_made}
use Rattle.esa_analysing.specs.declared.database.DatabaseInput.{DatabaseInput}
use Rattle.esa_analysing.specs.Database.{database_input, database_asked, database_file}
use Rattle.esa_analysing.specs.DatabaseTaken.{database_taken}
use Rattle.esa_analysing.proofs.database.take_job_and_database.Goals as goal

pub returns-in_err-job-clause-judged : goal.returns-in_err-job-clause-judged
unfolding database_input
returns-in_err-job-clause-judged g c =
    let p = err_from_is_err_and c.from_residual.result c.from_residual.ensures.1 in
    let stands = stand g.K.Cabinet.told g.K.Cabinet.faults g.K.Cabinet.heard in
    rw (p.1, p.2) (judged_stop 0 0 1 5 request_of database_taken (job_file c.args.command c.args.crew_allowed c.args.name.now) (database_asked c.args.command)
    (stands c.args.cabinet.now) (stands c.take_job.new.cabinet) c.in_err-job.field-0.0 (omega arith) c.in_err-job.ensures.judged)

pub returns-in_err-db-clause-judged : goal.returns-in_err-db-clause-judged
unfolding database_input
returns-in_err-db-clause-judged g c =
    let p = err_from_is_err_and c.from_residual-in_err-db.result c.from_residual-in_err-db.ensures.1 in
    let stands = stand g.K.Cabinet.told g.K.Cabinet.faults g.K.Cabinet.heard in
    let job = request_of c.in_ok-job.job in
    let stop = c.in_err-db.field-0.0 in
    rw (p.1, p.2) (judged_then 0 1 4 5 request_of database_taken (job_file c.args.command c.args.crew_allowed c.args.name.now) (database_asked c.args.command) c.in_ok-job.job
    (stands c.args.cabinet.now) (stands c.take_job.new.cabinet) (stands c.take_database.new.cabinet) (omega arith) c.in_ok-job.ensures.judged (Err stop)
    (judged_stop 4 4 5 5 (λ db. db) database_taken (database_file c.args.command job) (λ read stored. accepted (job, stored))
    (stands c.take_job.new.cabinet) (stands c.take_database.new.cabinet) stop (omega arith) c.in_err-db.ensures.judged))

pub returns-clause-judged : goal.returns-clause-judged
unfolding database_input
returns-clause-judged g c =
    let stands = stand g.K.Cabinet.told g.K.Cabinet.faults g.K.Cabinet.heard in
    let job = request_of c.in_ok-job.job in
    let input : DatabaseInput = record { job = c.in_ok-job.job; db = c.in_ok-db.db } in
    judged_then 0 1 4 5 request_of database_taken (job_file c.args.command c.args.crew_allowed c.args.name.now) (database_asked c.args.command) c.in_ok-job.job
    (stands c.args.cabinet.now) (stands c.take_job.new.cabinet) (stands c.take_database.new.cabinet) (omega arith) c.in_ok-job.ensures.judged (Ok input)
    (judged_made 4 5 (λ db. db) database_taken (database_file c.args.command job) (λ stored. accepted (job, stored)) c.in_ok-db.db
    (stands c.take_job.new.cabinet) (stands c.take_database.new.cabinet) c.in_ok-db.ensures.judged input refl)
