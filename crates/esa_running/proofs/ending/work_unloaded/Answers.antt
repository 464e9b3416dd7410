use Rattle.std.proofs.Common.{[], length, sym, ap, subst, ◌∙◌}
use Rattle.std.specs.Prelude.{◌==◌}
use Rattle.esa_outside.specs.declared.Role.TheVariants.{Input}
use Rattle.esa_refusal.specs.declared.status.Status.TheVariants.{OutsideFault}
use Rattle.esa_command.specs.Doing.{failed_work}
use Rattle.esa_command.specs.Settled.{Settles}
use Rattle.esa_command.specs.Stand.{stand}
use Rattle.esa_command.proofs.Settling.{none_written}
use Rattle.esa_taking.specs.RunTaken.{run_taken}
use Rattle.esa_running.specs.RunWork.{records_of}
use Rattle.esa_running.proofs.NothingMade.{none_made}
use Rattle.esa_running.proofs.ending.work_unloaded.Goals as goal

pub returns-then-is_empty : goal.returns-then-is_empty
returns-then-is_empty g c =
    let cabinet = stand g.K.Cabinet.told g.K.Cabinet.faults g.K.Cabinet.heard c.args.cabinet.now in
    let printer = stand g.P.Printer.told g.P.Printer.faults g.P.Printer.heard in
    let accesses = c.args.recorder.now.trace in
    let none = none_made accesses (records_of (run_taken c.args.input.now) accesses c.args.history.now) (c.if-is_empty.ensures ∙ ap (λ xs. length xs == 0) c.trace.ensures.trace) in
    subst (λ writes. Settles (failed_work (OutsideFault Input) writes) cabinet cabinet (printer c.args.printer.now) (printer c.settle_failed.new.printer) c.settle_failed.result) (sym none)
    (c.settle_failed.ensures [] cabinet cabinet (none_written cabinet))
