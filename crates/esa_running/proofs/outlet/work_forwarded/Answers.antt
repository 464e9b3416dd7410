use Rattle.std.proofs.Common.{sym, subst}
use Rattle.esa_command.specs.Settled.{Settles}
use Rattle.esa_command.specs.Stand.{stand}
use Rattle.esa_running.specs.declared.outlet.Outlet.{Outlet}
use Rattle.esa_running.specs.Outlets.{purpose_of}
use Rattle.esa_taking.specs.RunTaken.{run_taken}
use Rattle.esa_running.specs.RunWork.{success_work}
use Rattle.esa_running.proofs.outlet.work_forwarded.Goals as goal

pub returns-in-Count : goal.returns-in-Count
returns-in-Count g c = λ envelopes joined.
    let cabinet = stand g.K.Cabinet.told g.K.Cabinet.faults g.K.Cabinet.heard in
    let printer = stand g.P.Printer.told g.P.Printer.faults g.P.Printer.heard in
    subst (λ (outlet : Outlet). Settles (success_work (purpose_of outlet) (run_taken c.args.input.now) c.args.done.now.attempt envelopes c.args.recorder.now.trace c.args.history.now)
    (cabinet c.args.cabinet.now) (cabinet c.work_counted.new.cabinet) (printer c.args.printer.now) (printer c.work_counted.new.printer) c.work_counted.result) (sym c.in-Count.is)
    (c.work_counted.ensures envelopes joined)

pub returns-in-HandOn : goal.returns-in-HandOn
returns-in-HandOn g c = λ envelopes joined.
    let cabinet = stand g.K.Cabinet.told g.K.Cabinet.faults g.K.Cabinet.heard in
    let printer = stand g.P.Printer.told g.P.Printer.faults g.P.Printer.heard in
    subst (λ (outlet : Outlet). Settles (success_work (purpose_of outlet) (run_taken c.args.input.now) c.args.done.now.attempt envelopes c.args.recorder.now.trace c.args.history.now)
    (cabinet c.args.cabinet.now) (cabinet c.work_handed_on.new.cabinet) (printer c.args.printer.now) (printer c.work_handed_on.new.printer) c.work_handed_on.result) (sym c.in-HandOn.is)
    (c.work_handed_on.ensures envelopes joined)
