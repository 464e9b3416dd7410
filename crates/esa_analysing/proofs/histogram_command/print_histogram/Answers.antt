use Rattle.std.proofs.Common.{◌≡◌, [], ◌∷◌, ◌++◌, map, ap, subst, ◌∙◌}
use Rattle.std.proofs.lemmas.Result.{err_from_is_err_and}
use Rattle.esa_analysing.specs.RowText.{row_text, unopened_text}
use Rattle.esa_command.specs.Doing.{PrintsAll}
use Rattle.esa_command.specs.Stand.{stand}
use Rattle.esa_command.proofs.Printing.{prints_then, cut_before}
use Rattle.esa_analysing.proofs.histogram_command.print_histogram.Goals as goal

pub returns-in_err-print_rows : goal.returns-in_err-print_rows
returns-in_err-print_rows g c =
    let p = err_from_is_err_and c.from_residual.result c.from_residual.ensures.1 in
    let printer = stand g.P.Printer.told g.P.Printer.faults g.P.Printer.heard in
    let database = c.args.db.now.database in
    rw p.1 (cut_before (printer c.args.printer.now) (printer c.print_rows.new.printer) (map row_text database.rows) (unopened_text database.unopened ∷ []) c.in_err-print_rows.ensures)

pub returns : goal.returns
returns g c =
    let printer = stand g.P.Printer.told g.P.Printer.faults g.P.Printer.heard in
    let database = c.args.db.now.database in
    let text : c.as_bytes.result.now ≡ unopened_text database.unopened = c.as_bytes.ensures ∙ c.of_unopened-line.ensures ∙ ap unopened_text c.unopened.ensures in
    subst (λ line. PrintsAll (map row_text database.rows ++ line ∷ []) (printer c.args.printer.now) (printer c.print_line.new.printer) c.print_line.result) text
    (prints_then (printer c.args.printer.now) (printer c.print_rows.new.printer) (printer c.print_line.new.printer) (map row_text database.rows) (c.as_bytes.result.now ∷ []) c.print_line.result c.in_ok-print_rows.ensures c.print_line.ensures)
