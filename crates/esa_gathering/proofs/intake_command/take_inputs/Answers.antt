use Rattle.std.proofs.Common.{◌≡◌, ap, sym, subst, ◌∙◌, arith}
use Rattle.std.specs.Prelude.{unwrap_or}
use Rattle.std.proofs.lemmas.Result.{err_from_is_err_and}
use Rattle.esa_job.specs.Request.{inputs_at}
use Rattle.esa_job.specs.Seen.{request_of}
use Rattle.esa_job.specs.declared.field.JobField.TheVariants as field
use Rattle.esa_command.specs.Asked.{form_asked, number_of}
use Rattle.esa_command.specs.Stand.{stand}
use Rattle.esa_command.specs.Step.{step_of}
use Rattle.esa_command.proofs.Composition.{judged_stop, judged_made}
use Rattle.esa_command.proofs.Readers.{judged_stops}
use Rattle.esa_shuffling.specs.Batch.{StopsBatching}
use Rattle.esa_shuffling.proofs.Batching.{batching_stops}
use Rattle.esa_gathering.specs.Intake.{input_files, together, inputs_batched}
use Rattle.esa_gathering.specs.Together.{texts_of, batched_together}
use Rattle.esa_gathering.proofs.intake_command.take_inputs.Goals as goal

pub returns-in_err-texts : goal.returns-in_err-texts
unfolding inputs_batched
returns-in_err-texts g c =
    let p = err_from_is_err_and c.from_residual.result c.from_residual.ensures.1 in
    let job = request_of c.args.job.now in
    let stands = stand g.K.Cabinet.told g.K.Cabinet.faults g.K.Cabinet.heard in
    rw (p.1, p.2) (judged_stop 6 22 22 22 (λ texts. texts_of texts.items) (λ batch. batch) (input_files 0 (inputs_at job)) (λ _ texts. together job texts)
    (stands c.args.cabinet.now) (stands c.take_texts.new.cabinet) c.in_err-texts.field-0.0 (omega arith) c.in_err-texts.ensures.judged)

pub returns-in_err-batch : goal.returns-in_err-batch
unfolding inputs_batched
returns-in_err-batch g c =
    let p = err_from_is_err_and c.from_residual-in_err-batch.result c.from_residual-in_err-batch.ensures.1 in
    let job = request_of c.args.job.now in
    let stands = stand g.K.Cabinet.told g.K.Cabinet.faults g.K.Cabinet.heard in
    let stop = c.in_err-batch.field-0.0 in
    let making = batched_together (form_asked job) (number_of job field.Epoch) (number_of job field.M) in
    let epoch : c.unwrap_or-epoch.result ≡ number_of job field.Epoch = c.unwrap_or-epoch.ensures ∙ ap (λ n. unwrap_or n 0) c.epoch.ensures in
    let m : c.m.result ≡ number_of job field.M = sym (ap (λ n. unwrap_or n 0) c.m.ensures.value) in
    let same : batched_together c.form_of.result c.unwrap_or-epoch.result c.m.result (texts_of c.deref.result.now) ≡ making (texts_of c.in_ok-texts.texts.items) =
    λ i. batched_together (c.form_of.ensures i) (epoch i) (m i) (texts_of (c.deref.ensures.value i)) in
    let stops = batching_stops (making (texts_of c.in_ok-texts.texts.items)) stop (subst (λ made. StopsBatching made stop) same c.in_err-batch.ensures.err) in
    rw (p.1, p.2) (judged_stops 6 22 (λ texts. texts_of texts.items) (λ batch. batch) (input_files 0 (inputs_at job)) (together job) c.in_ok-texts.texts
    (stands c.args.cabinet.now) (stands c.take_texts.new.cabinet) c.in_ok-texts.ensures.judged stops.0 stop stops.1 stops.2)

pub returns : goal.returns
unfolding inputs_batched
returns g c =
    let job = request_of c.args.job.now in
    let stands = stand g.K.Cabinet.told g.K.Cabinet.faults g.K.Cabinet.heard in
    let making = batched_together (form_asked job) (number_of job field.Epoch) (number_of job field.M) in
    let epoch : c.unwrap_or-epoch.result ≡ number_of job field.Epoch = c.unwrap_or-epoch.ensures ∙ ap (λ n. unwrap_or n 0) c.epoch.ensures in
    let m : c.m.result ≡ number_of job field.M = sym (ap (λ n. unwrap_or n 0) c.m.ensures.value) in
    let same : batched_together c.form_of.result c.unwrap_or-epoch.result c.m.result (texts_of c.deref.result.now) ≡ making (texts_of c.in_ok-texts.texts.items) =
    λ i. batched_together (c.form_of.ensures i) (epoch i) (m i) (texts_of (c.deref.ensures.value i)) in
    judged_made 6 22 (λ texts. texts_of texts.items) (λ batch. batch) (input_files 0 (inputs_at job)) (together job) c.in_ok-texts.texts
    (stands c.args.cabinet.now) (stands c.take_texts.new.cabinet) c.in_ok-texts.ensures.judged c.in_ok-batch.field-0 (ap step_of (sym same ∙ c.in_ok-batch.ensures.ok))
