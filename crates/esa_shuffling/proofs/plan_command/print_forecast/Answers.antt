use Rattle.std.proofs.Common.{◌≡◌, [], ◌∷◌, ◌++◌, length, ap, subst, ◌∙◌}
use Rattle.std.proofs.lemmas.Result.{err_from_is_err_and}
use Rattle.esa_refusal.specs.Failures.{verdict_texts}
use Rattle.esa_command.specs.Doing.{PrintsAll, ArePrinted, AreCut}
use Rattle.esa_command.specs.Stand.{stand}
use Rattle.esa_command.proofs.Printing.{prints_then, cut_before}
use Rattle.esa_shuffling.specs.Plan.{accesses_text}
use Rattle.esa_shuffling.proofs.plan_command.print_forecast.Goals as goal

pub returns-in_err-print_verdicts : goal.returns-in_err-print_verdicts
returns-in_err-print_verdicts g c =
    let p = err_from_is_err_and c.from_residual.result c.from_residual.ensures.1 in
    let printer = stand g.P.Printer.told g.P.Printer.faults g.P.Printer.heard in
    let forecast = c.args.forecast.now in
    rw p.1 (cut_before (printer c.args.printer.now) (printer c.print_verdicts.new.printer) (verdict_texts 0 forecast.verdicts) (accesses_text (length forecast.accesses) ∷ [])
    (subst (λ verdicts. AreCut (verdict_texts 0 verdicts) (printer c.args.printer.now) (printer c.print_verdicts.new.printer)) c.verdicts.ensures c.in_err-print_verdicts.ensures))

pub returns : goal.returns
returns g c =
    let printer = stand g.P.Printer.told g.P.Printer.faults g.P.Printer.heard in
    let forecast = c.args.forecast.now in
    let text : c.as_bytes.result.now ≡ accesses_text (length forecast.accesses) = c.as_bytes.ensures ∙ c.accesses_line-line.ensures ∙ ap (λ xs. accesses_text (length xs)) c.accesses.ensures in
    subst (λ line. PrintsAll (verdict_texts 0 forecast.verdicts ++ line ∷ []) (printer c.args.printer.now) (printer c.print_line.new.printer) c.print_line.result) text
    (prints_then (printer c.args.printer.now) (printer c.print_verdicts.new.printer) (printer c.print_line.new.printer) (verdict_texts 0 forecast.verdicts) (c.as_bytes.result.now ∷ []) c.print_line.result
    (subst (λ verdicts. ArePrinted (verdict_texts 0 verdicts) (printer c.args.printer.now) (printer c.print_verdicts.new.printer)) c.verdicts.ensures c.in_ok-print_verdicts.ensures) c.print_line.ensures)
