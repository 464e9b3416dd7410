use Rattle.std.proofs.Common.{◌≡◌, ℕ, List, Some, ap, sym, subst, ◌∙◌}
use Rattle.std.specs.Prelude.{unwrap_or}
use Rattle.std.proofs.lemmas.Result.{err_from_is_err_and}
use Rattle.esa_batcher.specs.Batched.{Batched}
use Rattle.esa_job.specs.Request.{Request, name_at}
use Rattle.esa_job.specs.Seen.{request_of}
use Rattle.esa_job.specs.declared.command.Command.TheVariants.{Batch}
use Rattle.esa_job.specs.declared.field.JobField.TheVariants as field
use Rattle.esa_refusal.specs.declared.source.Source.TheVariants as source
use Rattle.esa_command.specs.Asked.{form_asked, number_of}
use Rattle.esa_command.specs.Stand.{stand}
use Rattle.esa_command.specs.Step.{Step, ◌>>=◌, step_of, file}
use Rattle.esa_command.proofs.Readers.{called_name, file_gone, file_made, file_stops}
use Rattle.esa_shuffling.specs.Batch.{submissions_file, batched, StopsBatching}
use Rattle.esa_shuffling.proofs.Batching.{batching_stops}
use Rattle.esa_shuffling.proofs.batch_command.take_submissions.Goals as goal

-- what is made of the submissions
abbrev making : Request → List ℕ → Step Batched
making job bytes = step_of (batched (form_asked job) (number_of job field.Epoch) (number_of job field.M) bytes)

same_steps : (job : Request) (called : List ℕ) → name_at job field.Input ≡ Some called → (λ read. file Batch source.Input called read >>= making job) ≡ submissions_file job
unfolding submissions_file
same_steps job called is = λ i read. file Batch source.Input (called_name job field.Input called is i) read >>= making job

pub returns-in_err-bytes : goal.returns-in_err-bytes
returns-in_err-bytes g c =
    let p = err_from_is_err_and c.from_residual.result c.from_residual.ensures.1 in
    let job = request_of c.args.job.now in
    let called = c.input.result.now in
    let stands = stand g.K.Cabinet.told g.K.Cabinet.faults g.K.Cabinet.heard in
    rw (p.1, p.2) (file_gone (λ batch. batch) Batch source.Input called (making job) (submissions_file job) (same_steps job called c.input.ensures)
    (stands c.args.cabinet.now) (stands c.read_file.new.cabinet) c.in_err-bytes.field-0.0 c.in_err-bytes.ensures)

pub returns-in_err-batch_of : goal.returns-in_err-batch_of
returns-in_err-batch_of g c =
    let p = err_from_is_err_and c.from_residual-in_err-batch_of.result c.from_residual-in_err-batch_of.ensures.1 in
    let job = request_of c.args.job.now in
    let called = c.input.result.now in
    let stands = stand g.K.Cabinet.told g.K.Cabinet.faults g.K.Cabinet.heard in
    let stop = c.in_err-batch_of.field-0.0 in
    let read = batched (form_asked job) (number_of job field.Epoch) (number_of job field.M) in
    let epoch : c.unwrap_or-epoch.result ≡ number_of job field.Epoch = c.unwrap_or-epoch.ensures ∙ ap (λ n. unwrap_or n 0) c.epoch.ensures in
    let m : c.m.result ≡ number_of job field.M = sym (ap (λ n. unwrap_or n 0) c.m.ensures.value) in
    let same : batched c.form_of.result c.unwrap_or-epoch.result c.m.result c.deref.result.now ≡ read c.in_ok-bytes.bytes.items =
    λ i. batched (c.form_of.ensures i) (epoch i) (m i) (c.deref.ensures.value i) in
    let stops = batching_stops (read c.in_ok-bytes.bytes.items) stop (subst (λ made. StopsBatching made stop) same c.in_err-batch_of.ensures.err) in
    rw (p.1, p.2) (file_stops (λ batch. batch) Batch source.Input called (making job) (submissions_file job) (same_steps job called c.input.ensures)
    (stands c.args.cabinet.now) (stands c.read_file.new.cabinet) c.in_ok-bytes.bytes c.in_ok-bytes.ensures stops.0 stop stops.1 stops.2)

pub returns : goal.returns
returns g c =
    let job = request_of c.args.job.now in
    let called = c.input.result.now in
    let stands = stand g.K.Cabinet.told g.K.Cabinet.faults g.K.Cabinet.heard in
    let epoch : c.unwrap_or-epoch.result ≡ number_of job field.Epoch = c.unwrap_or-epoch.ensures ∙ ap (λ n. unwrap_or n 0) c.epoch.ensures in
    let m : c.m.result ≡ number_of job field.M = sym (ap (λ n. unwrap_or n 0) c.m.ensures.value) in
    let same : step_of (batched c.form_of.result c.unwrap_or-epoch.result c.m.result c.deref.result.now) ≡ making job c.in_ok-bytes.bytes.items =
    λ i. step_of (batched (c.form_of.ensures i) (epoch i) (m i) (c.deref.ensures.value i)) in
    file_made (λ batch. batch) Batch source.Input called (making job) (submissions_file job) (same_steps job called c.input.ensures)
    (stands c.args.cabinet.now) (stands c.read_file.new.cabinet) c.in_ok-bytes.bytes c.in_ok-bytes.ensures c.in_ok-batch_of.field-0 (sym same ∙ ap step_of c.in_ok-batch_of.ensures.ok)
