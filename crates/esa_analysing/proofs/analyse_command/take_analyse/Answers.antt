use Rattle.std.proofs.Common.{Ok, Err, ap, refl, false, arith}
use Rattle.std.specs.Prelude.{unwrap_or, []}
use Rattle.std.proofs.lemmas.Result.{err_from_is_err_and}
use Rattle.esa_job.specs.Seen.{request_of}
use Rattle.esa_job.specs.declared.command.Command.TheVariants.{Analyse}
use Rattle.esa_job.specs.declared.keys.KeyField.TheVariants as key
use Rattle.esa_command.specs.Stand.{stand}
use Rattle.esa_command.specs.Step.{accepted}
use Rattle.esa_command.specs.Taking.{job_file, keys_file}
use Rattle.esa_command.proofs.Composition.{judged_stop, judged_then, judged_made, judged_wider}
use Rattle.esa_analysing.specs.declared.analyse_command.AnalyseInput.{AnalyseInput}
use Rattle.esa_analysing.specs.Analyse.{analyse_steps, analyse_asked, analyse_keyed, analyse_work, analyse_master_work, forward_file}
use Rattle.esa_analysing.specs.AnalyseTaken.{analyse_taken}
use Rattle.esa_analysing.proofs.analyse_command.take_analyse.Goals as goal

pub returns-in_err-job-clause-judged : goal.returns-in_err-job-clause-judged
unfolding analyse_steps
returns-in_err-job-clause-judged g c =
    let p = err_from_is_err_and c.from_residual.result c.from_residual.ensures.1 in
    let stands = stand g.K.Cabinet.told g.K.Cabinet.faults g.K.Cabinet.heard in
    rw (p.1, p.2) (judged_stop 0 0 1 6 request_of analyse_taken (job_file Analyse c.args.crew_allowed c.args.name.now) analyse_asked
    (stands c.args.cabinet.now) (stands c.take_job.new.cabinet) c.in_err-job.field-0.0 (omega arith) c.in_err-job.ensures.judged)

pub returns-in_err-ring-clause-judged : goal.returns-in_err-ring-clause-judged
unfolding analyse_steps
returns-in_err-ring-clause-judged g c =
    let p = err_from_is_err_and c.from_residual-in_err-ring.result c.from_residual-in_err-ring.ensures.1 in
    let stands = stand g.K.Cabinet.told g.K.Cabinet.faults g.K.Cabinet.heard in
    let job = request_of c.in_ok-job.job in
    let stop = c.in_err-ring.field-0.0 in
    rw (p.1, p.2) (judged_then 0 1 1 6 request_of analyse_taken (job_file Analyse c.args.crew_allowed c.args.name.now) analyse_asked c.in_ok-job.job
    (stands c.args.cabinet.now) (stands c.take_job.new.cabinet) (stands c.take_keys.new.cabinet) (omega arith) c.in_ok-job.ensures.judged (Err stop)
    (judged_stop 1 1 2 6 (λ ring. ring) analyse_taken (keys_file Analyse false job) (analyse_keyed job) (stands c.take_job.new.cabinet) (stands c.take_keys.new.cabinet) stop (omega arith) c.in_err-ring.ensures.judged))

pub returns-in_err-forwarded-clause-judged : goal.returns-in_err-forwarded-clause-judged
unfolding analyse_steps
returns-in_err-forwarded-clause-judged g c =
    let p = err_from_is_err_and c.from_residual-in_err-forwarded.result c.from_residual-in_err-forwarded.ensures.1 in
    let stands = stand g.K.Cabinet.told g.K.Cabinet.faults g.K.Cabinet.heard in
    let job = request_of c.in_ok-job.job in
    let ring = c.in_ok-ring.ring in
    let stop = c.in_err-forwarded.field-0.0 in
    rw (p.1, p.2) (judged_then 0 1 1 6 request_of analyse_taken (job_file Analyse c.args.crew_allowed c.args.name.now) analyse_asked c.in_ok-job.job
    (stands c.args.cabinet.now) (stands c.take_job.new.cabinet) (stands c.take_forward.new.cabinet) (omega arith) c.in_ok-job.ensures.judged (Err stop)
    (judged_then 1 2 4 6 (λ ring. ring) analyse_taken (keys_file Analyse false job) (analyse_keyed job) ring
    (stands c.take_job.new.cabinet) (stands c.take_keys.new.cabinet) (stands c.take_forward.new.cabinet) (omega arith) c.in_ok-ring.ensures.judged (Err stop)
    (judged_stop 4 4 5 6 (λ forwarded. forwarded) analyse_taken (forward_file Analyse job) (λ read forwarded. accepted (analyse_work job ring forwarded))
    (stands c.take_keys.new.cabinet) (stands c.take_forward.new.cabinet) stop (omega arith) c.in_err-forwarded.ensures.judged)))

pub returns-clause-judged : goal.returns-clause-judged
unfolding analyse_steps
returns-clause-judged g c =
    let stands = stand g.K.Cabinet.told g.K.Cabinet.faults g.K.Cabinet.heard in
    let job = request_of c.in_ok-job.job in
    let ring = c.in_ok-ring.ring in
    let forwarded = c.in_ok-forwarded.forwarded in
    let input : AnalyseInput = record { job = c.in_ok-job.job; master = c.inner.result; forwarded = forwarded } in
    judged_then 0 1 1 6 request_of analyse_taken (job_file Analyse c.args.crew_allowed c.args.name.now) analyse_asked c.in_ok-job.job
    (stands c.args.cabinet.now) (stands c.take_job.new.cabinet) (stands c.take_forward.new.cabinet) (omega arith) c.in_ok-job.ensures.judged (Ok input)
    (judged_then 1 2 4 6 (λ ring. ring) analyse_taken (keys_file Analyse false job) (analyse_keyed job) ring
    (stands c.take_job.new.cabinet) (stands c.take_keys.new.cabinet) (stands c.take_forward.new.cabinet) (omega arith) c.in_ok-ring.ensures.judged (Ok input)
    (judged_wider 4 5 6 analyse_taken (λ read. analyse_keyed job read ring) (stands c.take_keys.new.cabinet) (stands c.take_forward.new.cabinet) (Ok input) (omega arith)
    (judged_made 4 5 (λ forwarded. forwarded) analyse_taken (forward_file Analyse job) (λ forwarded. accepted (analyse_work job ring forwarded)) forwarded
    (stands c.take_keys.new.cabinet) (stands c.take_forward.new.cabinet) c.in_ok-forwarded.ensures.judged input
    (ap (λ master. accepted (analyse_master_work job (unwrap_or master []) forwarded)) c.inner.ensures))))

pub inner-requires : goal.inner-requires
inner-requires g c = c.in_ok-ring.ensures.needed key.Inner refl
