use Rattle.std.proofs.Common.{refl}
use Rattle.std.proofs.lemmas.Result.{err_from_is_err_and}
use Rattle.esa_job.specs.Refusal.{job_of}
use Rattle.esa_job.specs.Seen.{request_of}
use Rattle.esa_job.specs.declared.job.JobRefused.TheVariants.{OutOfMemory}
use Rattle.esa_refusal.specs.Stop.{job_refusal, stop_of_job}
use Rattle.esa_refusal.specs.declared.source.Source.TheVariants as source
use Rattle.esa_refusal.proofs.Stops.{job_stops}
use Rattle.esa_command.specs.Stand.{stand}
use Rattle.esa_command.specs.Taking.{job_file, read_step}
use Rattle.esa_command.proofs.Readers.{file_gone, file_read, file_unread}
use Rattle.esa_command.proofs.taking.take_job.Goals as goal

pub returns-in_err-text-clause-judged : goal.returns-in_err-text-clause-judged
unfolding job_file
returns-in_err-text-clause-judged g c =
    let p = err_from_is_err_and c.from_residual.result c.from_residual.ensures.1 in
    let stands = stand g.K.Cabinet.told g.K.Cabinet.faults g.K.Cabinet.heard in
    let name = c.args.name.now in
    rw (p.1, p.2) (file_gone request_of c.args.command source.Job name (λ text. read_step job_refusal (job_of c.args.command c.args.crew_allowed name text)) (job_file c.args.command c.args.crew_allowed name) refl
    (stands c.args.cabinet.now) (stands c.read_file.new.cabinet) c.in_err-text.field-0.0 c.in_err-text.ensures)

pub returns-in_err-read-clause-judged : goal.returns-in_err-read-clause-judged
unfolding job_file
returns-in_err-read-clause-judged g c =
    let p = err_from_is_err_and c.from_residual-in_err-read.result c.from_residual-in_err-read.ensures.1 in
    let stands = stand g.K.Cabinet.told g.K.Cabinet.faults g.K.Cabinet.heard in
    let name = c.args.name.now in
    let error = c.in_err-read.field-0.0 in
    rw (p.1, p.2) (file_unread request_of c.args.command source.Job name job_refusal (job_of c.args.command c.args.crew_allowed name) (job_file c.args.command c.args.crew_allowed name) refl
    (stands c.args.cabinet.now) (stands c.read_file.new.cabinet) c.in_ok-text.text c.in_ok-text.ensures c.deref.result.now c.deref.ensures.value
    OutOfMemory error stop_of_job refl (job_stops error) c.in_err-read.ensures.err)

pub returns-clause-judged : goal.returns-clause-judged
unfolding job_file
returns-clause-judged g c =
    let stands = stand g.K.Cabinet.told g.K.Cabinet.faults g.K.Cabinet.heard in
    let name = c.args.name.now in
    file_read request_of c.args.command source.Job name job_refusal (job_of c.args.command c.args.crew_allowed name) (job_file c.args.command c.args.crew_allowed name) refl
    (stands c.args.cabinet.now) (stands c.read_file.new.cabinet) c.in_ok-text.text c.in_ok-text.ensures c.deref.result.now c.deref.ensures.value c.in_ok-read.field-0 c.in_ok-read.ensures.ok
