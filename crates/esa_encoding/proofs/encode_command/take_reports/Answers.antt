use Rattle.std.proofs.Common.{◌≡◌, ◌⊎◌, inl, inr, ℕ, List, length, Some, Ok, Err, ap, sym, subst, ◌∙◌, ⊎_elim}
use Rattle.std.proofs.lemmas.Result.{err_from_is_err_and}
use Rattle.esa_bytes.specs.Lines.{text_lines}
use Rattle.esa_encoder.specs.declared.submission.EncodeRefused.TheVariants.{OutOfMemory}
use Rattle.esa_job.specs.Keys.{Ring}
use Rattle.esa_job.specs.Request.{Request, name_at}
use Rattle.esa_job.specs.Seen.{request_of}
use Rattle.esa_job.specs.declared.command.Command.TheVariants.{Encode}
use Rattle.esa_job.specs.declared.field.JobField.TheVariants as field
use Rattle.esa_refusal.specs.declared.source.Source.TheVariants as source
use Rattle.esa_refusal.specs.Stop.{stop_of_encode, encode_refusal}
use Rattle.esa_refusal.proofs.Stops.{encode_stops}
use Rattle.esa_command.specs.Stand.{stand}
use Rattle.esa_command.specs.Step.{◌>>=◌, accepted, file}
use Rattle.esa_command.specs.Taking.{read_step}
use Rattle.esa_command.proofs.Readers.{called_name, file_gone, file_made, file_stops}
use Rattle.esa_encoding.specs.declared.encode_command.Sealed.{Sealed}
use Rattle.esa_encoding.specs.Encode.{reports_file, sealed, encoded_by}
use Rattle.esa_encoding.specs.EncodeTaken.{sealed_as}
use Rattle.esa_encoding.proofs.encode_command.take_reports.Goals as goal

same_steps : (job : Request) (ring : Ring) (called : List ℕ) → name_at job field.Input ≡ Some called → (λ read. file Encode source.Input called read >>= sealed job ring) ≡ reports_file job ring
unfolding reports_file
same_steps job ring called is = λ i read. file Encode source.Input (called_name job field.Input called is i) read >>= sealed job ring

pub returns-in_err-reports : goal.returns-in_err-reports
returns-in_err-reports g c =
    let p = err_from_is_err_and c.from_residual.result c.from_residual.ensures.1 in
    let job = request_of c.args.job.now in
    let ring = c.args.ring.now in
    let called = c.input.result.now in
    let stands = stand g.K.Cabinet.told g.K.Cabinet.faults g.K.Cabinet.heard in
    rw (p.1, p.2) (file_gone sealed_as Encode source.Input called (sealed job ring) (reports_file job ring) (same_steps job ring called c.input.ensures)
    (stands c.args.cabinet.now) (stands c.read_file.new.cabinet) c.in_err-reports.field-0.0 c.in_err-reports.ensures)

pub returns-in_err-submissions : goal.returns-in_err-submissions
returns-in_err-submissions g c =
    let p = err_from_is_err_and c.from_residual-in_err-submissions.result c.from_residual-in_err-submissions.ensures.1 in
    let job = request_of c.args.job.now in
    let ring = c.args.ring.now in
    let called = c.input.result.now in
    let stands = stand g.K.Cabinet.told g.K.Cabinet.faults g.K.Cabinet.heard in
    let error = c.in_err-submissions.field-0.0 in
    let bytes = c.in_ok-reports.reports.items in
    let refuses : (error ≡ OutOfMemory) ⊎ (encoded_by job ring bytes ≡ Err error) =
    subst (λ bytes. (error ≡ OutOfMemory) ⊎ (encoded_by job ring bytes ≡ Err error)) c.deref-2.ensures.value c.in_err-submissions.ensures in
    rw (p.1, p.2) (file_stops sealed_as Encode source.Input called (sealed job ring) (reports_file job ring) (same_steps job ring called c.input.ensures)
    (stands c.args.cabinet.now) (stands c.read_file.new.cabinet) c.in_ok-reports.reports c.in_ok-reports.ensures (encode_refusal error) (stop_of_encode error) (encode_stops error)
    (⊎_elim (λ starved. inl (ap stop_of_encode starved)) (λ is. inr (ap (λ made. read_step encode_refusal made >>= λ all. accepted (all, length (text_lines bytes))) is)) refuses))

pub returns : goal.returns
returns g c =
    let job = request_of c.args.job.now in
    let ring = c.args.ring.now in
    let called = c.input.result.now in
    let stands = stand g.K.Cabinet.told g.K.Cabinet.faults g.K.Cabinet.heard in
    let bytes = c.in_ok-reports.reports.items in
    let made : Sealed = record { submissions = c.in_ok-submissions.submissions; lines = c.line_count-lines.result } in
    let lines : length (text_lines bytes) ≡ c.line_count-lines.result = sym (c.line_count-lines.ensures ∙ ap (λ bytes. length (text_lines bytes)) c.deref.ensures.value) in
    let sealing : encoded_by job ring bytes ≡ Ok made.submissions.items = ap (encoded_by job ring) (sym c.deref-2.ensures.value) ∙ c.in_ok-submissions.ensures in
    file_made sealed_as Encode source.Input called (sealed job ring) (reports_file job ring) (same_steps job ring called c.input.ensures)
    (stands c.args.cabinet.now) (stands c.read_file.new.cabinet) c.in_ok-reports.reports c.in_ok-reports.ensures made (λ i. read_step encode_refusal (sealing i) >>= λ all. accepted (all, lines i))
