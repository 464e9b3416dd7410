use Rattle.std.proofs.Common.{◌≡◌, ap, sym, subst, refl, arith}
use Rattle.std.specs.Prelude.{unwrap_or, []}
use Rattle.esa_job.specs.Seen.{request_of}
use Rattle.esa_job.specs.declared.field.JobField.TheVariants as field
use Rattle.esa_command.specs.Settled.{Settles}
use Rattle.esa_command.specs.Stand.{stand}
use Rattle.esa_command.specs.Step.{accepted}
use Rattle.esa_command.specs.Taking.{name_of}
use Rattle.esa_command.specs.Work.{Work}
use Rattle.esa_command.proofs.Composition.{judged_stop, judged_made}
use Rattle.esa_command.proofs.Ending.{ends_stop_inputs, ends_work_inputs}
use Rattle.esa_shuffling.specs.Batch.{batch_file_work, batch_work}
use Rattle.esa_gathering.specs.Intake.{intake_input, intake_steps}
use Rattle.esa_gathering.specs.IntakeTaken.{intake_taken}
use Rattle.esa_gathering.proofs.intake_command.intake_by.Goals as goal

pub returns-in-Ok : goal.returns-in-Ok
returns-in-Ok g c =
    let cabinet = stand g.K.Cabinet.told g.K.Cabinet.faults g.K.Cabinet.heard in
    let printer = stand g.P.Printer.told g.P.Printer.faults g.P.Printer.heard in
    let before = cabinet c.args.cabinet.now in
    let middle = cabinet c.take_intake.new.cabinet in
    let now = cabinet c.work_batch.new.cabinet in
    let name = c.args.name.now in
    let input = c.in-Ok.input in
    let work = batch_work (intake_taken input) in
    let output : c.output.result.now ≡ name_of (request_of input.job) field.Output = sym (ap (λ name. unwrap_or name []) c.output.ensures) in
    ends_work_inputs (λ (work : Work). work) (intake_steps c.args.crew_allowed name) before middle now (printer c.args.printer.now) (printer c.work_batch.new.printer) c.work_batch.result work
    (judged_made 0 22 intake_taken (λ (work : Work). work) (intake_input c.args.crew_allowed name) (λ all. accepted (batch_work all)) input before middle c.in-Ok.ensures.judged work refl)
    (subst (λ to. Settles (batch_file_work to input.batch) middle now (printer c.args.printer.now) (printer c.work_batch.new.printer) c.work_batch.result) output c.work_batch.ensures)

pub returns-in-Err : goal.returns-in-Err
returns-in-Err g c =
    let cabinet = stand g.K.Cabinet.told g.K.Cabinet.faults g.K.Cabinet.heard in
    let printer = stand g.P.Printer.told g.P.Printer.faults g.P.Printer.heard in
    let before = cabinet c.args.cabinet.now in
    let middle = cabinet c.take_intake.new.cabinet in
    let name = c.args.name.now in
    ends_stop_inputs (λ (work : Work). work) (intake_steps c.args.crew_allowed name) before middle (printer c.args.printer.now) c.in-Err.stop c.from.result c.from.ensures
    (judged_stop 0 0 22 22 intake_taken (λ (work : Work). work) (intake_input c.args.crew_allowed name) (λ _ all. accepted (batch_work all)) before middle c.in-Err.stop (omega arith) c.in-Err.ensures.judged)
