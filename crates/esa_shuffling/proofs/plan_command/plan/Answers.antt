use Rattle.std.proofs.Common.{refl, sym, subst}
use Rattle.esa_refusal.specs.declared.stop.Stop.TheVariants.{OutOfMemory}
use Rattle.esa_refusal.specs.declared.status.End.TheVariants.{Stopped}
use Rattle.esa_refusal.specs.declared.status.Status.TheVariants as status
use Rattle.esa_command.specs.Ends.{Ends}
use Rattle.esa_command.specs.Stand.{stand}
use Rattle.esa_command.proofs.Composition.{judged_out}
use Rattle.esa_command.proofs.Ending.{ends_stop, ends_work}
use Rattle.esa_shuffling.specs.Plan.{plan_steps}
use Rattle.esa_shuffling.specs.PlanTaken.{plan_taken}
use Rattle.esa_shuffling.proofs.plan_command.plan.Goals as goal

pub returns-in-Ok : goal.returns-in-Ok
returns-in-Ok g c =
    let cabinet = stand g.K.Cabinet.told g.K.Cabinet.faults g.K.Cabinet.heard in
    let printer = stand g.P.Printer.told g.P.Printer.faults g.P.Printer.heard in
    let steps = plan_steps c.args.crew_allowed c.args.name.now in
    let before = cabinet c.args.cabinet.now in
    let middle = cabinet c.take_plan.new.cabinet in
    let still = c.in-Err-foretell_plan.ensures in
    subst (λ now. Ends steps before (cabinet now) (printer c.args.printer.now) (printer c.foretell_plan.new.printer) (Stopped status.OutOfMemory)) (sym still.0)
    (subst (λ now. Ends steps before middle (printer c.args.printer.now) (printer now) (Stopped status.OutOfMemory)) (sym still.1)
    (ends_stop plan_taken steps before middle (printer c.args.printer.now) OutOfMemory status.OutOfMemory refl
    (judged_out 0 6 plan_taken plan_taken steps before middle c.in-Ok.input c.in-Ok.ensures.judged)))

pub returns-in-Ok-foretell_plan : goal.returns-in-Ok-foretell_plan
returns-in-Ok-foretell_plan g c =
    let cabinet = stand g.K.Cabinet.told g.K.Cabinet.faults g.K.Cabinet.heard in
    let printer = stand g.P.Printer.told g.P.Printer.faults g.P.Printer.heard in
    ends_work plan_taken (plan_steps c.args.crew_allowed c.args.name.now) (cabinet c.args.cabinet.now) (cabinet c.take_plan.new.cabinet) (cabinet c.foretell_plan.new.cabinet)
    (printer c.args.printer.now) (printer c.foretell_plan.new.printer) c.in-Ok-foretell_plan.end c.in-Ok.input c.in-Ok.ensures.judged c.in-Ok-foretell_plan.ensures

pub returns : goal.returns
returns g c =
    let cabinet = stand g.K.Cabinet.told g.K.Cabinet.faults g.K.Cabinet.heard in
    let printer = stand g.P.Printer.told g.P.Printer.faults g.P.Printer.heard in
    ends_stop plan_taken (plan_steps c.args.crew_allowed c.args.name.now) (cabinet c.args.cabinet.now) (cabinet c.take_plan.new.cabinet) (printer c.args.printer.now)
    c.in-Err.stop c.from.result c.from.ensures c.in-Err.ensures.judged
