use Rattle.std.proofs.Common.{◌≡◌, ap, sym, subst, refl, arith}
use Rattle.std.specs.Prelude.{unwrap_or, []}
use Rattle.esa_job.specs.Seen.{request_of}
use Rattle.esa_job.specs.declared.field.JobField.TheVariants as field
use Rattle.esa_command.specs.Settled.{Settles}
use Rattle.esa_command.specs.Stand.{stand}
use Rattle.esa_command.specs.Step.{accepted}
use Rattle.esa_command.specs.Taking.{name_of}
use Rattle.esa_command.specs.Work.{Work}
use Rattle.esa_command.proofs.Composition.{judged_stop, judged_made, judged_wider}
use Rattle.esa_command.proofs.Ending.{ends_stop, ends_work}
use Rattle.esa_shuffling.specs.Batch.{batch_input, batch_steps, batch_file_work, batch_work}
use Rattle.esa_shuffling.specs.BatchTaken.{batch_taken}
use Rattle.esa_shuffling.proofs.batch_command.batch.Goals as goal

pub returns-in-Ok : goal.returns-in-Ok
returns-in-Ok g c =
    let cabinet = stand g.K.Cabinet.told g.K.Cabinet.faults g.K.Cabinet.heard in
    let printer = stand g.P.Printer.told g.P.Printer.faults g.P.Printer.heard in
    let before = cabinet c.args.cabinet.now in
    let middle = cabinet c.take_batch.new.cabinet in
    let now = cabinet c.work_batch.new.cabinet in
    let name = c.args.name.now in
    let input = c.in-Ok.input in
    let work = batch_work (batch_taken input) in
    let steps = batch_steps c.args.crew_allowed name in
    let output : c.output.result.now ≡ name_of (request_of input.job) field.Output = sym (ap (λ name. unwrap_or name []) c.output.ensures) in
    ends_work (λ (work : Work). work) steps before middle now (printer c.args.printer.now) (printer c.work_batch.new.printer) c.work_batch.result work
    (judged_wider 0 5 6 (λ (work : Work). work) steps before middle _ (omega arith)
    (judged_made 0 5 batch_taken (λ (work : Work). work) (batch_input c.args.crew_allowed name) (λ all. accepted (batch_work all)) input before middle c.in-Ok.ensures.judged work refl))
    (subst (λ to. Settles (batch_file_work to input.batch) middle now (printer c.args.printer.now) (printer c.work_batch.new.printer) c.work_batch.result) output c.work_batch.ensures)

pub returns-in-Err : goal.returns-in-Err
returns-in-Err g c =
    let cabinet = stand g.K.Cabinet.told g.K.Cabinet.faults g.K.Cabinet.heard in
    let printer = stand g.P.Printer.told g.P.Printer.faults g.P.Printer.heard in
    let before = cabinet c.args.cabinet.now in
    let middle = cabinet c.take_batch.new.cabinet in
    let name = c.args.name.now in
    ends_stop (λ (work : Work). work) (batch_steps c.args.crew_allowed name) before middle (printer c.args.printer.now) c.in-Err.stop c.from.result c.from.ensures
    (judged_stop 0 0 5 6 batch_taken (λ (work : Work). work) (batch_input c.args.crew_allowed name) (λ _ all. accepted (batch_work all)) before middle c.in-Err.stop (omega arith) c.in-Err.ensures.judged)
