use Rattle.std.proofs.lemmas.Result.{err_from_is_err_and}
use Rattle.esa_refusal.specs.Status.{failed_texts, own_texts}
use Rattle.esa_command.specs.Stand.{stand}
use Rattle.esa_command.proofs.Printing.{prints_then, cut_before}
use Rattle.esa_command.proofs.status_lines.print_status.Goals as goal

pub returns-in_err-print_failed : goal.returns-in_err-print_failed
returns-in_err-print_failed g c =
    let p = err_from_is_err_and c.from_residual.result c.from_residual.ensures.1 in
    let printer = stand g.P.Printer.told g.P.Printer.faults g.P.Printer.heard in
    rw p.1 (cut_before (printer c.args.printer.now) (printer c.print_failed.new.printer) (failed_texts c.args.status.now) (own_texts c.args.status.now) c.in_err-print_failed.ensures)

pub returns : goal.returns
returns g c =
    let printer = stand g.P.Printer.told g.P.Printer.faults g.P.Printer.heard in
    prints_then (printer c.args.printer.now) (printer c.print_failed.new.printer) (printer c.print_own.new.printer) (failed_texts c.args.status.now) (own_texts c.args.status.now) c.print_own.result
    c.in_ok-print_failed.ensures c.print_own.ensures
