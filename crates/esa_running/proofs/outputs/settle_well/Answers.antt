use Rattle.std.proofs.Common.{refl, sym, subst}
use Rattle.esa_refusal.specs.declared.status.End.TheVariants.{Stopped}
use Rattle.esa_refusal.specs.declared.status.Status.TheVariants as status
use Rattle.esa_command.specs.Doing.{WritesAll}
use Rattle.esa_command.specs.Settled.{Settles}
use Rattle.esa_command.specs.Stand.{stand}
use Rattle.esa_command.proofs.Settling.{settled_unwritten}
use Rattle.esa_running.specs.RunWork.{well_work}
use Rattle.esa_running.proofs.outputs.settle_well.Goals as goal

pub returns-in-Ok : goal.returns-in-Ok
returns-in-Ok g c = λ writes cabinet cabinet_now saved.
    let printer = stand g.P.Printer.told g.P.Printer.faults g.P.Printer.heard in
    subst (λ line. Settles (well_work writes line) cabinet cabinet_now (printer c.args.printer.now) (printer c.print_line.new.printer) c.settle.result) c.as_bytes.ensures
    (c.settle.ensures (well_work writes c.as_bytes.result.now) cabinet cabinet_now (printer c.args.printer.now) (printer c.print_line.new.printer) refl
    (subst (WritesAll writes cabinet cabinet_now) c.in-Ok.is saved) c.print_line.ensures)

pub returns-in-Err : goal.returns-in-Err
returns-in-Err g c = λ writes cabinet cabinet_now saved.
    let printer = stand g.P.Printer.told g.P.Printer.faults g.P.Printer.heard c.args.printer.now in
    subst (λ role. Settles (well_work writes c.args.line.now) cabinet cabinet_now printer printer (Stopped (status.OutsideFault role))) (sym c.role.ensures)
    (settled_unwritten (well_work writes c.args.line.now) cabinet cabinet_now printer printer c.in-Err.sink (subst (WritesAll writes cabinet cabinet_now) c.in-Err.is saved) refl)
