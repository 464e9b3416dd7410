use Rattle.std.proofs.Common.{◌≡◌, ◌∷◌, ◌++◌, length, refl, sym, ap, subst, ◌∙◌}
use Rattle.std.specs.Prelude.{[], unwrap_or}
use Rattle.esa_job.specs.Seen.{request_of}
use Rattle.esa_job.specs.declared.field.JobField.TheVariants as field
use Rattle.esa_refusal.specs.declared.source.Sink.TheVariants.{Output}
use Rattle.esa_threshold.specs.Forward.{forward_front}
use Rattle.esa_command.specs.Settled.{Settles}
use Rattle.esa_command.specs.Stand.{stand}
use Rattle.esa_command.specs.Taking.{name_of}
use Rattle.esa_command.specs.Work.{Write}
use Rattle.esa_command.proofs.Settling.{writes_whole}
use Rattle.esa_taking.specs.RunTaken.{run_taken}
use Rattle.esa_running.specs.RunWork.{records_of, shuffled_text, made_text, well_work}
use Rattle.esa_running.proofs.Joining.{joined_number, joined_few}
use Rattle.esa_taking.proofs.Needed.{needs}
use Rattle.esa_running.proofs.outlet.work_handed_on.Goals as goal

pub output-requires : goal.output-requires
output-requires g c = needs field.Output (request_of c.args.input.now.job).command (request_of c.args.input.now.job).command refl c.requires.taken.shuffles refl refl

pub number_of-number-requires : goal.number_of-number-requires
number_of-number-requires g c =
    let j = c.requires.joined in
    let form = c.form-form.ensures.value ∙ ap (λ p. p.form) c.requires.taken.plan in
    joined_few (run_taken c.args.input.now) j.0 c.args.done.now.envelopes.now j.1 c.form-form.result form 262144 c.requires.taken.limits.n_greatest

pub returns : goal.returns
returns g c = λ envelopes joined.
    let asked = run_taken c.args.input.now in
    let done = c.args.done.now in
    let cabinet = stand g.K.Cabinet.told g.K.Cabinet.faults g.K.Cabinet.heard in
    let printer = stand g.P.Printer.told g.P.Printer.faults g.P.Printer.heard in
    let before = cabinet c.args.cabinet.now in
    let middle = cabinet c.write_forward-saved.new.cabinet in
    let number = c.number_of-number.result in
    let form_is = c.form-form.ensures.value ∙ ap (λ p. p.form) c.requires.taken.plan in
    let number_is : number ≡ length envelopes = joined_number asked envelopes done.envelopes.now joined c.form-form.result form_is number c.number_of-number.ensures in
    let name : c.output.result.now ≡ name_of asked.job field.Output = sym (ap (λ name. unwrap_or name []) c.output.ensures) in
    let write : Write = record { sink = Output; name = c.output.result.now; bytes = forward_front c.form-form.result asked.batch.epoch number ++ done.envelopes.now } in
    let all = c.write_forward-saved.ensures in
    let line : c.handed_on_line-line.result ≡ shuffled_text done.attempt asked.batch.count (length envelopes) ++ made_text (length c.args.recorder.now.trace) =
    c.handed_on_line-line.ensures ∙ (λ i. shuffled_text done.attempt asked.batch.count (number_is i) ++ made_text (length (c.trace.ensures.trace i))) in
    subst (λ work. Settles work before (cabinet c.work_saved.new.cabinet) (printer c.args.printer.now) (printer c.work_saved.new.printer) c.work_saved.result)
    (λ i. well_work (record { sink = Output; name = name i; bytes = forward_front (form_is i) asked.batch.epoch (number_is i) ++ joined.joined i } ∷ records_of asked c.args.recorder.now.trace c.args.history.now) (line i))
    (c.work_saved.ensures before write refl (writes_whole c.write_forward-saved.result write before middle all.cause all.whole all.left all.heard all.heard_broken))
