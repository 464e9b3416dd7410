use Rattle.std.proofs.Common.{◌≡◌, ◌∷◌, [], Some, refl, ap, sym, subst}
use Rattle.std.specs.Prelude.{option_map}
use Rattle.esa_spec.specs.Files.{trace_bytes}
use Rattle.esa_refusal.specs.declared.source.Sink.TheVariants.{Trace}
use Rattle.esa_outside.specs.declared.Role.TheVariants as role
use Rattle.esa_refusal.specs.declared.status.End.TheVariants.{Stopped}
use Rattle.esa_refusal.specs.declared.status.Status.TheVariants as status
use Rattle.esa_command.specs.Doing.{WritesIt, AreWritten, AreBroken}
use Rattle.esa_command.specs.Settled.{Settles}
use Rattle.esa_command.specs.Stand.{stand}
use Rattle.esa_command.specs.Work.{Write}
use Rattle.esa_command.proofs.Settling.{writes_whole, settled_unwritten}
use Rattle.esa_shuffling.specs.Plan.{forecast_work}
use Rattle.esa_shuffling.proofs.plan_command.work_plan.Goals as goal

pub returns-in-Ok : goal.returns-in-Ok
returns-in-Ok g c =
    let cabinet = stand g.K.Cabinet.told g.K.Cabinet.faults g.K.Cabinet.heard in
    let printer = stand g.P.Printer.told g.P.Printer.faults g.P.Printer.heard in
    let before = cabinet c.args.cabinet.now in
    let now = cabinet c.write_trace.new.cabinet in
    let forecast = c.args.forecast.now in
    let name = c.in-Some.name.now in
    let write : Write = record { sink = Trace; name = name; bytes = trace_bytes c.accesses.result.now } in
    let all = c.write_trace.ensures in
    let wrote = subst (WritesIt write before now) c.in-Ok.is (writes_whole c.write_trace.result write before now all.cause all.whole all.left all.heard all.heard_broken) in
    let work = forecast_work (Some name) forecast.verdicts forecast.accesses in
    let named : option_map (λ name. name.now) c.args.trace ≡ Some name = ap (option_map (λ name. name.now)) c.in-Some.is in
    subst (λ name. Settles (forecast_work name forecast.verdicts forecast.accesses) before now (printer c.args.printer.now) (printer c.print_forecast-in-Ok.new.printer) c.settle-in-Ok.result) (sym named)
    (c.settle-in-Ok.ensures work before now (printer c.args.printer.now) (printer c.print_forecast-in-Ok.new.printer) refl
    (subst (λ xs. AreWritten (record { sink = Trace; name = name; bytes = trace_bytes xs } ∷ []) before now) c.accesses.ensures wrote) c.print_forecast-in-Ok.ensures)

pub returns-in-Err : goal.returns-in-Err
returns-in-Err g c =
    let cabinet = stand g.K.Cabinet.told g.K.Cabinet.faults g.K.Cabinet.heard in
    let printer = stand g.P.Printer.told g.P.Printer.faults g.P.Printer.heard in
    let before = cabinet c.args.cabinet.now in
    let now = cabinet c.write_trace.new.cabinet in
    let forecast = c.args.forecast.now in
    let name = c.in-Some.name.now in
    let write : Write = record { sink = Trace; name = name; bytes = trace_bytes c.accesses.result.now } in
    let all = c.write_trace.ensures in
    let wrote = subst (WritesIt write before now) c.in-Err.is (writes_whole c.write_trace.result write before now all.cause all.whole all.left all.heard all.heard_broken) in
    let work = forecast_work (Some name) forecast.verdicts forecast.accesses in
    let named : option_map (λ name. name.now) c.args.trace ≡ Some name = ap (option_map (λ name. name.now)) c.in-Some.is in
    subst (λ name. Settles (forecast_work name forecast.verdicts forecast.accesses) before now (printer c.args.printer.now) (printer c.args.printer.now) (Stopped (status.OutsideFault role.Trace))) (sym named)
    (settled_unwritten work before now (printer c.args.printer.now) (printer c.args.printer.now) Trace
    (subst (λ xs. AreBroken Trace (record { sink = Trace; name = name; bytes = trace_bytes xs } ∷ []) before now) c.accesses.ensures wrote) refl)
