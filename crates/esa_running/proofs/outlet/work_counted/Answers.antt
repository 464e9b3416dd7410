use Rattle.std.proofs.Common.{◌≡◌, ◌∷◌, ◌++◌, length, refl, sym, ap, subst, ◌∙◌, arith}
use Rattle.std.specs.Prelude.{[], unwrap_or}
use Rattle.esa_analyser.specs.Opened.{database_of}
use Rattle.esa_analyser.specs.Rows.{database_bytes}
use Rattle.esa_header.specs.Pieces.{HaveLength}
use Rattle.esa_job.specs.Table.{need_of}
use Rattle.esa_job.specs.declared.field.JobField.TheVariants as field
use Rattle.esa_params.specs.Form.{inner_length}
use Rattle.esa_refusal.specs.declared.source.Sink.TheVariants.{Output}
use Rattle.esa_command.specs.Settled.{Settles}
use Rattle.esa_command.specs.Stand.{stand}
use Rattle.esa_command.specs.Taking.{name_of}
use Rattle.esa_command.specs.Work.{Write}
use Rattle.esa_command.proofs.Settling.{writes_whole}
use Rattle.esa_taking.specs.RunTaken.{run_taken}
use Rattle.esa_running.specs.RunWork.{records_of, shuffled_text, holds_text, made_text, well_work}
use Rattle.esa_taking.specs.Wanted.{inner_keys}
use Rattle.esa_running.proofs.Joining.{joined_number, joined_few}
use Rattle.esa_running.proofs.outlet.work_counted.Goals as goal

pub count-requires : goal.count-requires
count-requires g c =
    let j = c.requires.joined in
    record { whole = joined_few (run_taken c.args.input.now) j.0 c.args.done.now.envelopes.now j.1 c.args.analysis.form c.requires.form c.args.analysis.room (omega (arith, c.requires.records)) }

pub output-requires : goal.output-requires
output-requires g c = ap (need_of field.Output) c.requires.command

pub number_of-number-requires : goal.number_of-number-requires
number_of-number-requires g c =
    let j = c.requires.joined in
    let form = c.form.ensures.value ∙ ap (λ p. p.form) c.requires.taken.plan in
    joined_few (run_taken c.args.input.now) j.0 c.args.done.now.envelopes.now j.1 c.form.result form 262144 c.requires.taken.limits.n_greatest

pub returns : goal.returns
returns g c = λ envelopes joined.
    let asked = run_taken c.args.input.now in
    let done = c.args.done.now in
    let cabinet = stand g.K.Cabinet.told g.K.Cabinet.faults g.K.Cabinet.heard in
    let printer = stand g.P.Printer.told g.P.Printer.faults g.P.Printer.heard in
    let before = cabinet c.args.cabinet.now in
    let middle = cabinet c.write-saved.new.cabinet in
    let analysis = c.count.new.self in
    let database = database_of (inner_keys asked) envelopes in
    let counted : analysis ≡ record c.args.analysis { database = database_of c.inner_keys.result envelopes } =
    c.count.ensures.counted envelopes (subst (λ form. HaveLength (inner_length form) envelopes) (sym c.requires.form) joined.whole) joined.joined in
    let database_is : analysis.database ≡ database = ap (λ a. a.database) counted ∙ ap (λ keys. database_of keys envelopes) c.inner_keys.ensures in
    let form_is : analysis.form ≡ asked.batch.form = ap (λ a. a.form) counted ∙ c.requires.form in
    let name : c.output.result.now ≡ name_of asked.job field.Output = sym (ap (λ name. unwrap_or name []) c.output.ensures) in
    let write : Write = record { sink = Output; name = c.output.result.now; bytes = database_bytes analysis.form analysis.database } in
    let all = c.write-saved.ensures in
    let form = c.form.ensures.value ∙ ap (λ p. p.form) c.requires.taken.plan in
    let number : c.number_of-number.result ≡ length envelopes = joined_number asked envelopes done.envelopes.now joined c.form.result form c.number_of-number.result c.number_of-number.ensures in
    let line : c.run_line-line.result ≡ shuffled_text done.attempt asked.batch.count (length envelopes) ++ (holds_text database ++ made_text (length c.args.recorder.now.trace)) =
    c.run_line-line.ensures ∙ (λ i. shuffled_text done.attempt asked.batch.count (number i) ++ (holds_text (database_is i) ++ made_text (length (c.trace.ensures.trace i)))) in
    subst (λ work. Settles work before (cabinet c.work_saved.new.cabinet) (printer c.args.printer.now) (printer c.work_saved.new.printer) c.work_saved.result)
    (λ i. well_work (record { sink = Output; name = name i; bytes = database_bytes (form_is i) (database_is i) } ∷ records_of asked c.args.recorder.now.trace c.args.history.now) (line i))
    (c.work_saved.ensures before write refl (writes_whole c.write-saved.result write before middle all.cause all.whole all.left all.heard all.heard_broken))
