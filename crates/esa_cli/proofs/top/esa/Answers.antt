use Rattle.std.proofs.Common.{true, None, Some, refl, sym, ap, ◌∙◌}
use Rattle.std.specs.Option.{option_map}
use Rattle.esa_refusal.specs.declared.status.End.TheVariants.{Stopped}
use Rattle.esa_refusal.specs.declared.status.Status.TheVariants as status
use Rattle.esa_command.specs.Stand.{stand}
use Rattle.esa_command.specs.Telling.{status_in}
use Rattle.esa_cli.proofs.Answering.{answered}
use Rattle.esa_cli.proofs.top.esa.Goals as goal

pub returns-in-None : goal.returns-in-None
returns-in-None g c =
    let printer = stand g.P.Printer.told g.P.Printer.faults g.P.Printer.heard in
    answered g.V.Device.told g.V.Device.faults true _ (printer c.args.printer.now) (Stopped status.Usage) None _
    (sym (ap (option_map (λ call. (call.command, call.job.now))) c.in-None.is) ∙ c.call_of.ensures)
    c.tell-status.ensures.tells c.tell-status.ensures.status
    (record { ends = refl; cabinet_stands = refl; printer_stands = refl; untouched = (refl, refl) }) tt

pub returns-in-Some : goal.returns-in-Some
returns-in-Some g c =
    let printer = stand g.P.Printer.told g.P.Printer.faults g.P.Printer.heard in
    let call = c.in-Some.call in
    answered g.V.Device.told g.V.Device.faults true _ (printer c.run_call_threaded-ran.new.printer) c.run_call_threaded-ran.result.end (Some (call.command, call.job.now)) _
    (sym (ap (option_map (λ call. (call.command, call.job.now))) c.in-Some.is) ∙ c.call_of.ensures)
    c.tell.ensures.tells c.tell.ensures.status
    c.run_call_threaded-ran.ensures.ends (λ unbuilt. ap status_in (c.run_call_threaded-ran.ensures.unbuilt unbuilt))
