use Rattle.std.proofs.Common.{[], ◌∷◌, refl, sym, ap, subst, ◌∙◌}
use Rattle.esa_refusal.specs.Source.{role_of_sink}
use Rattle.esa_refusal.specs.declared.status.End.TheVariants.{Stopped}
use Rattle.esa_refusal.specs.declared.status.Status.TheVariants.{OutsideFault}
use Rattle.esa_command.specs.Doing.{WritesIt, PrintsAll, one_of_each}
use Rattle.esa_command.specs.Settled.{Settles}
use Rattle.esa_command.specs.Stand.{stand}
use Rattle.esa_command.proofs.Settling.{settled_unwritten}
use Rattle.esa_command.proofs.doing.settle_one.Goals as goal

pub returns-in-Ok : goal.returns-in-Ok
returns-in-Ok g c = λ write cabinet cabinet_now sink saved.
    let stands = stand g.P.Printer.told g.P.Printer.faults g.P.Printer.heard in
    c.settle.ensures (one_of_each write c.args.line.now) cabinet cabinet_now (stands c.args.printer.now) (stands c.print_line.new.printer) refl (subst (WritesIt write cabinet cabinet_now) c.in-Ok.is saved)
    (subst (λ line. PrintsAll (line ∷ []) (stands c.args.printer.now) (stands c.print_line.new.printer) c.print_line.result) c.as_bytes.ensures c.print_line.ensures)

pub returns-in-Err : goal.returns-in-Err
returns-in-Err g c = λ write cabinet cabinet_now sink saved.
    let printer = stand g.P.Printer.told g.P.Printer.faults g.P.Printer.heard c.args.printer.now in
    subst (λ role. Settles (one_of_each write c.args.line.now) cabinet cabinet_now printer printer (Stopped (OutsideFault role))) (ap role_of_sink sink ∙ sym c.role.ensures)
    (settled_unwritten (one_of_each write c.args.line.now) cabinet cabinet_now printer printer write.sink (subst (WritesIt write cabinet cabinet_now) c.in-Err.is saved) refl)
