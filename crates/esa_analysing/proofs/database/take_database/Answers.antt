use Rattle.std.proofs.Common.{◌≡◌, ℕ, List, Some, refl}
use Rattle.std.proofs.lemmas.Result.{err_from_is_err_and}
use Rattle.esa_job.specs.Request.{Request, name_at}
use Rattle.esa_job.specs.Seen.{request_of}
use Rattle.esa_job.specs.declared.command.Command.{Command}
use Rattle.esa_job.specs.declared.field.JobField.TheVariants as field
use Rattle.esa_analyser.specs.Reading.{database_in}
use Rattle.esa_analyser.specs.declared.refused.DbRefused.TheVariants.{OutOfMemory}
use Rattle.esa_refusal.specs.declared.refusal.Refusal.TheVariants as refusal
use Rattle.esa_refusal.specs.declared.source.Source.TheVariants as source
use Rattle.esa_refusal.specs.Stop.{stop_of_database}
use Rattle.esa_refusal.proofs.Stops.{database_stops}
use Rattle.esa_command.specs.Stand.{stand}
use Rattle.esa_command.specs.Step.{◌>>=◌, file}
use Rattle.esa_command.specs.Taking.{read_step}
use Rattle.esa_command.proofs.Readers.{called_name, file_gone, file_read, file_unread}
use Rattle.esa_analysing.specs.Database.{database_file}
use Rattle.esa_analysing.proofs.database.take_database.Goals as goal

same_steps : (command : Command) (job : Request) (called : List ℕ) → name_at job field.Input ≡ Some called
    → (λ read. file command source.Input called read >>= λ bytes. read_step refusal.Database (database_in bytes)) ≡ database_file command job
unfolding database_file
same_steps command job called is = λ i read. file command source.Input (called_name job field.Input called is i) read >>= λ bytes. read_step refusal.Database (database_in bytes)

pub returns-in_err-bytes-clause-judged : goal.returns-in_err-bytes-clause-judged
returns-in_err-bytes-clause-judged g c =
    let p = err_from_is_err_and c.from_residual.result c.from_residual.ensures.1 in
    let stands = stand g.K.Cabinet.told g.K.Cabinet.faults g.K.Cabinet.heard in
    let command = c.args.command in
    let job = request_of c.args.job.now in
    let called = c.input.result.now in
    rw (p.1, p.2) (file_gone (λ db. db) command source.Input called (λ bytes. read_step refusal.Database (database_in bytes)) (database_file command job) (same_steps command job called c.input.ensures)
    (stands c.args.cabinet.now) (stands c.read_file.new.cabinet) c.in_err-bytes.field-0.0 c.in_err-bytes.ensures)

pub returns-in_err-read_db-clause-judged : goal.returns-in_err-read_db-clause-judged
returns-in_err-read_db-clause-judged g c =
    let p = err_from_is_err_and c.from_residual-in_err-read_db.result c.from_residual-in_err-read_db.ensures.1 in
    let stands = stand g.K.Cabinet.told g.K.Cabinet.faults g.K.Cabinet.heard in
    let command = c.args.command in
    let job = request_of c.args.job.now in
    let called = c.input.result.now in
    let error = c.in_err-read_db.field-0.0 in
    rw (p.1, p.2) (file_unread (λ db. db) command source.Input called refusal.Database database_in (database_file command job) (same_steps command job called c.input.ensures)
    (stands c.args.cabinet.now) (stands c.read_file.new.cabinet) c.in_ok-bytes.bytes c.in_ok-bytes.ensures c.deref.result.now c.deref.ensures.value
    OutOfMemory error stop_of_database refl (database_stops error) c.in_err-read_db.ensures.first_refusal)

pub returns-clause-judged : goal.returns-clause-judged
returns-clause-judged g c =
    let stands = stand g.K.Cabinet.told g.K.Cabinet.faults g.K.Cabinet.heard in
    let command = c.args.command in
    let job = request_of c.args.job.now in
    let called = c.input.result.now in
    file_read (λ db. db) command source.Input called refusal.Database database_in (database_file command job) (same_steps command job called c.input.ensures)
    (stands c.args.cabinet.now) (stands c.read_file.new.cabinet) c.in_ok-bytes.bytes c.in_ok-bytes.ensures c.deref.result.now c.deref.ensures.value c.in_ok-read_db.field-0 c.in_ok-read_db.ensures.first_refusal
