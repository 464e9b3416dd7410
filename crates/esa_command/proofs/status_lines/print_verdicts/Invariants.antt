use Rattle.std.proofs.Common.{take}
use Rattle.esa_refusal.specs.Failures.{verdict_texts}
use Rattle.esa_command.specs.Doing.{ArePrinted}
use Rattle.esa_command.specs.Stand.{stand}
use Rattle.esa_command.proofs.status_lines.print_verdicts.Given as goal

abbrev pub invariant-loop-attempt : goal.invariant-loop-attempt
invariant-loop-attempt g l =
    let printer = stand g.P.Printer.told g.P.Printer.faults g.P.Printer.heard in
    ArePrinted (take l.attempt (verdict_texts 0 l.verdicts)) (printer l.initial.printer) (printer l.printer)
