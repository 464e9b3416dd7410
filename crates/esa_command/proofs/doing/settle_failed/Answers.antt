use Rattle.std.proofs.Common.{refl, sym, subst}
use Rattle.esa_command.specs.Doing.{WritesAll, failed_work}
use Rattle.esa_command.specs.Settled.{Settles}
use Rattle.esa_command.specs.Stand.{stand}
use Rattle.esa_command.proofs.Settling.{settled_unwritten}
use Rattle.esa_command.proofs.doing.settle_failed.Goals as goal

pub returns-in-Ok : goal.returns-in-Ok
returns-in-Ok g c = λ writes cabinet cabinet_now saved.
    let stands = stand g.P.Printer.told g.P.Printer.faults g.P.Printer.heard in
    c.settle.ensures (failed_work c.args.status writes) cabinet cabinet_now (stands c.args.printer.now) (stands c.print_status.new.printer) refl
    (subst (WritesAll writes cabinet cabinet_now) c.in-Ok.is saved) c.print_status.ensures

pub returns-in-Err : goal.returns-in-Err
returns-in-Err g c = λ writes cabinet cabinet_now saved.
    let printer = stand g.P.Printer.told g.P.Printer.faults g.P.Printer.heard c.args.printer.now in
    subst (Settles (failed_work c.args.status writes) cabinet cabinet_now printer printer) (sym c.unwritten.ensures)
    (settled_unwritten (failed_work c.args.status writes) cabinet cabinet_now printer printer c.in-Err.sink (subst (WritesAll writes cabinet cabinet_now) c.in-Err.is saved) refl)
