use Rattle.std.proofs.Common.{Ok, Err, refl, arith}
use Rattle.std.proofs.lemmas.Result.{err_from_is_err_and}
use Rattle.esa_job.specs.Seen.{request_of}
use Rattle.esa_job.specs.declared.command.Command.TheVariants.{Encode}
use Rattle.esa_job.specs.declared.keys.KeyField.TheVariants as key
use Rattle.esa_command.specs.Stand.{stand}
use Rattle.esa_command.specs.Taking.{job_file, keys_file}
use Rattle.esa_command.proofs.Composition.{judged_stop, judged_then, judged_made, judged_wider}
use Rattle.esa_encoding.specs.declared.encode_command.EncodeInput.{EncodeInput}
use Rattle.esa_encoding.specs.Encode.{has_shares, reports_file, encode_steps, encode_asked, encode_keyed, encode_sealed}
use Rattle.esa_encoding.specs.EncodeTaken.{sealed_as, encode_taken}
use Rattle.esa_encoding.proofs.encode_command.take_encode.Goals as goal

pub returns-in_err-job-clause-judged : goal.returns-in_err-job-clause-judged
unfolding encode_steps
returns-in_err-job-clause-judged g c =
    let p = err_from_is_err_and c.from_residual.result c.from_residual.ensures.1 in
    let stands = stand g.K.Cabinet.told g.K.Cabinet.faults g.K.Cabinet.heard in
    rw (p.1, p.2) (judged_stop 0 0 1 6 request_of encode_taken (job_file Encode c.args.crew_allowed c.args.name.now) encode_asked
    (stands c.args.cabinet.now) (stands c.take_job.new.cabinet) c.in_err-job.field-0.0 (omega arith) c.in_err-job.ensures.judged)

pub returns-in_err-ring-clause-judged : goal.returns-in_err-ring-clause-judged
unfolding encode_steps
returns-in_err-ring-clause-judged g c =
    let p = err_from_is_err_and c.from_residual-in_err-ring.result c.from_residual-in_err-ring.ensures.1 in
    let stands = stand g.K.Cabinet.told g.K.Cabinet.faults g.K.Cabinet.heard in
    let job = request_of c.in_ok-job.job in
    let stop = c.in_err-ring.field-0.0 in
    rw (p.1, p.2) (judged_then 0 1 1 6 request_of encode_taken (job_file Encode c.args.crew_allowed c.args.name.now) encode_asked c.in_ok-job.job
    (stands c.args.cabinet.now) (stands c.take_job.new.cabinet) (stands c.take_ring.new.cabinet) (omega arith) c.in_ok-job.ensures.judged (Err stop)
    (judged_stop 1 1 2 6 (λ ring. ring) encode_taken (keys_file Encode (has_shares job) job) (encode_keyed job) (stands c.take_job.new.cabinet) (stands c.take_ring.new.cabinet) stop (omega arith) c.in_err-ring.ensures.judged))

pub returns-in_err-sealed-clause-judged : goal.returns-in_err-sealed-clause-judged
unfolding encode_steps
returns-in_err-sealed-clause-judged g c =
    let p = err_from_is_err_and c.from_residual-in_err-sealed.result c.from_residual-in_err-sealed.ensures.1 in
    let stands = stand g.K.Cabinet.told g.K.Cabinet.faults g.K.Cabinet.heard in
    let job = request_of c.in_ok-job.job in
    let ring = c.in_ok-ring.ring in
    let stop = c.in_err-sealed.field-0.0 in
    rw (p.1, p.2) (judged_then 0 1 1 6 request_of encode_taken (job_file Encode c.args.crew_allowed c.args.name.now) encode_asked c.in_ok-job.job
    (stands c.args.cabinet.now) (stands c.take_job.new.cabinet) (stands c.take_reports.new.cabinet) (omega arith) c.in_ok-job.ensures.judged (Err stop)
    (judged_then 1 2 4 6 (λ ring. ring) encode_taken (keys_file Encode (has_shares job) job) (encode_keyed job) ring
    (stands c.take_job.new.cabinet) (stands c.take_ring.new.cabinet) (stands c.take_reports.new.cabinet) (omega arith) c.in_ok-ring.ensures.judged (Err stop)
    (judged_stop 4 4 5 6 sealed_as encode_taken (reports_file job ring) (λ _. encode_sealed job)
    (stands c.take_ring.new.cabinet) (stands c.take_reports.new.cabinet) stop (omega arith) c.in_err-sealed.ensures)))

pub returns-clause-judged : goal.returns-clause-judged
unfolding encode_steps
returns-clause-judged g c =
    let stands = stand g.K.Cabinet.told g.K.Cabinet.faults g.K.Cabinet.heard in
    let job = request_of c.in_ok-job.job in
    let ring = c.in_ok-ring.ring in
    let input : EncodeInput = record { job = c.in_ok-job.job; sealed = c.in_ok-sealed.sealed } in
    judged_then 0 1 1 6 request_of encode_taken (job_file Encode c.args.crew_allowed c.args.name.now) encode_asked c.in_ok-job.job
    (stands c.args.cabinet.now) (stands c.take_job.new.cabinet) (stands c.take_reports.new.cabinet) (omega arith) c.in_ok-job.ensures.judged (Ok input)
    (judged_then 1 2 4 6 (λ ring. ring) encode_taken (keys_file Encode (has_shares job) job) (encode_keyed job) ring
    (stands c.take_job.new.cabinet) (stands c.take_ring.new.cabinet) (stands c.take_reports.new.cabinet) (omega arith) c.in_ok-ring.ensures.judged (Ok input)
    (judged_wider 4 5 6 encode_taken (λ read. encode_keyed job read ring) (stands c.take_ring.new.cabinet) (stands c.take_reports.new.cabinet) (Ok input) (omega arith)
    (judged_made 4 5 sealed_as encode_taken (reports_file job ring) (encode_sealed job) c.in_ok-sealed.sealed
    (stands c.take_ring.new.cabinet) (stands c.take_reports.new.cabinet) c.in_ok-sealed.ensures input refl)))

pub take_reports-requires-clause-outer : goal.take_reports-requires-clause-outer
take_reports-requires-clause-outer g c = c.in_ok-ring.ensures.needed key.Outer refl

pub take_reports-requires-clause-inner : goal.take_reports-requires-clause-inner
take_reports-requires-clause-inner g c = c.in_ok-ring.ensures.needed key.Inner refl

pub take_reports-requires-clause-share : goal.take_reports-requires-clause-share
take_reports-requires-clause-share g c = c.in_ok-ring.ensures.needed key.Share
