use Rattle.std.proofs.Common.{refl, arith}
use Rattle.esa_job.specs.declared.command.Command.TheVariants.{Histogram}
use Rattle.esa_command.specs.Stand.{stand}
use Rattle.esa_command.specs.Step.{accepted}
use Rattle.esa_command.specs.Work.{Work}
use Rattle.esa_command.proofs.Composition.{judged_stop, judged_made, judged_wider}
use Rattle.esa_command.proofs.Ending.{ends_stop, ends_work}
use Rattle.esa_command.proofs.Settling.{none_written}
use Rattle.esa_analysing.specs.Database.{database_input}
use Rattle.esa_analysing.specs.DatabaseTaken.{database_taken}
use Rattle.esa_analysing.specs.Histogram.{histogram_steps, histogram_work}
use Rattle.esa_analysing.proofs.histogram_command.histogram.Goals as goal

pub returns-in-Ok : goal.returns-in-Ok
returns-in-Ok g c =
    let cabinet = stand g.K.Cabinet.told g.K.Cabinet.faults g.K.Cabinet.heard in
    let printer = stand g.P.Printer.told g.P.Printer.faults g.P.Printer.heard in
    let before = cabinet c.args.cabinet.now in
    let middle = cabinet c.take_job_and_database.new.cabinet in
    let name = c.args.name.now in
    let input = c.in-Ok.input in
    let work = histogram_work (database_taken input) in
    let steps = histogram_steps c.args.crew_allowed name in
    ends_work (λ (work : Work). work) steps before middle middle (printer c.args.printer.now) (printer c.print_histogram.new.printer) c.settle.result work
    (judged_wider 0 5 6 (λ (work : Work). work) steps before middle _ (omega arith)
    (judged_made 0 5 database_taken (λ (work : Work). work) (database_input Histogram c.args.crew_allowed name) (λ all. accepted (histogram_work all)) input before middle c.in-Ok.ensures.judged work refl))
    (c.settle.ensures work middle middle (printer c.args.printer.now) (printer c.print_histogram.new.printer) refl (none_written middle) c.print_histogram.ensures)

pub returns-in-Err : goal.returns-in-Err
returns-in-Err g c =
    let cabinet = stand g.K.Cabinet.told g.K.Cabinet.faults g.K.Cabinet.heard in
    let printer = stand g.P.Printer.told g.P.Printer.faults g.P.Printer.heard in
    let before = cabinet c.args.cabinet.now in
    let middle = cabinet c.take_job_and_database.new.cabinet in
    let name = c.args.name.now in
    ends_stop (λ (work : Work). work) (histogram_steps c.args.crew_allowed name) before middle (printer c.args.printer.now) c.in-Err.stop c.from.result c.from.ensures
    (judged_stop 0 0 5 6 database_taken (λ (work : Work). work) (database_input Histogram c.args.crew_allowed name) (λ _ all. accepted (histogram_work all)) before middle c.in-Err.stop (omega arith) c.in-Err.ensures.judged)
