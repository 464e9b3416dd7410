use Rattle.std.proofs.Common.{map, take}
use Rattle.esa_analysing.specs.RowText.{row_text}
use Rattle.esa_command.specs.Doing.{ArePrinted}
use Rattle.esa_command.specs.Stand.{stand}
use Rattle.esa_analysing.proofs.histogram_command.print_rows.Given as goal

abbrev pub invariant-loop-row : goal.invariant-loop-row
invariant-loop-row g l =
    let printer = stand g.P.Printer.told g.P.Printer.faults g.P.Printer.heard in
    ArePrinted (take l.row (map row_text l.db.database.rows)) (printer l.initial.printer) (printer l.printer)
