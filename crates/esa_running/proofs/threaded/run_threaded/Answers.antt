use Rattle.std.proofs.Common.{Ok, Err, refl, sym, subst}
use Rattle.std.specs.Prelude.{true, []}
use Rattle.esa_refusal.specs.declared.stop.Stop.TheVariants.{OutOfMemory}
use Rattle.esa_refusal.specs.declared.status.End.TheVariants.{Stopped}
use Rattle.esa_refusal.specs.declared.status.Status.TheVariants as status
use Rattle.esa_command.specs.Ends.{EndsBy}
use Rattle.esa_command.specs.Judged.{Judged}
use Rattle.esa_command.specs.Stand.{stand}
use Rattle.esa_command.proofs.Composition.{judged_out}
use Rattle.esa_command.proofs.Ending.{ends_idle, ends_act}
use Rattle.esa_running.specs.Purpose.{command_for}
use Rattle.esa_taking.specs.Run.{run_steps}
use Rattle.esa_running.specs.RunEnded.{IsIdle, history_in}
use Rattle.esa_running.specs.RunOwes.{RunOwes}
use Rattle.esa_taking.specs.RunTaken.{run_taken}
use Rattle.esa_running.proofs.threaded.run_threaded.Goals as goal

pub returns-in-Ok-act_as_asked : goal.returns-in-Ok-act_as_asked
returns-in-Ok-act_as_asked g c =
    let cabinet = stand g.K.Cabinet.told g.K.Cabinet.faults g.K.Cabinet.heard in
    let printer = stand g.P.Printer.told g.P.Printer.faults g.P.Printer.heard in
    let before = g.V.Device.faults c.args.recorder.device in
    let judged = subst (λ command. Judged 0 6 run_taken (run_steps command true c.args.name.now) (cabinet c.args.cabinet.now) (cabinet c.take_run.new.cabinet) (Ok c.in-Ok.input)) c.command.ensures c.in-Ok.ensures.judged in
    let ended = c.in-Ok-act_as_asked.ended in
    let done = c.in-Ok-act_as_asked.ensures in
    ends_act run_taken (IsIdle ended.recorder (history_in ended.history)) (RunOwes c.args.purpose g.V.Device.told g.V.Device.faults before ended.recorder (history_in ended.history)) (run_steps (command_for c.args.purpose) true c.args.name.now)
    (cabinet c.args.cabinet.now) (cabinet c.take_run.new.cabinet) done.acted (cabinet c.act_as_asked.new.cabinet) (printer c.args.printer.now) (printer c.act_as_asked.new.printer) ended.end c.in-Ok.input done.work
    judged done.owes done.settles

pub returns-in-Ok : goal.returns-in-Ok
returns-in-Ok g c =
    let cabinet = stand g.K.Cabinet.told g.K.Cabinet.faults g.K.Cabinet.heard in
    let printer = stand g.P.Printer.told g.P.Printer.faults g.P.Printer.heard in
    let before = g.V.Device.faults c.args.recorder.device in
    let judged = subst (λ command. Judged 0 6 run_taken (run_steps command true c.args.name.now) (cabinet c.args.cabinet.now) (cabinet c.take_run.new.cabinet) (Ok c.in-Ok.input)) c.command.ensures c.in-Ok.ensures.judged in
    let none = c.in-Err-act_as_asked.none in
    let still = c.in-Err-act_as_asked.ensures in
    let idle = IsIdle none.recorder [] in
    let owes = RunOwes c.args.purpose g.V.Device.told g.V.Device.faults before none.recorder [] in
    let steps = run_steps (command_for c.args.purpose) true c.args.name.now in
    subst (λ now. EndsBy idle owes steps (cabinet c.args.cabinet.now) (cabinet now) (printer c.args.printer.now) (printer c.act_as_asked.new.printer) (Stopped status.OutOfMemory)) (sym still.1)
    (subst (λ now. EndsBy idle owes steps (cabinet c.args.cabinet.now) (cabinet c.take_run.new.cabinet) (printer c.args.printer.now) (printer now) (Stopped status.OutOfMemory)) (sym still.2)
    (ends_idle run_taken idle owes steps (cabinet c.args.cabinet.now) (cabinet c.take_run.new.cabinet) (printer c.args.printer.now) OutOfMemory status.OutOfMemory refl
    (record { trace = still.0; turns = refl })
    (judged_out 0 6 run_taken run_taken steps (cabinet c.args.cabinet.now) (cabinet c.take_run.new.cabinet) c.in-Ok.input judged)))

pub returns : goal.returns
returns g c =
    let cabinet = stand g.K.Cabinet.told g.K.Cabinet.faults g.K.Cabinet.heard in
    let printer = stand g.P.Printer.told g.P.Printer.faults g.P.Printer.heard in
    let before = g.V.Device.faults c.args.recorder.device in
    let judged = subst (λ command. Judged 0 6 run_taken (run_steps command true c.args.name.now) (cabinet c.args.cabinet.now) (cabinet c.take_run.new.cabinet) (Err c.in-Err.stop)) c.command.ensures c.in-Err.ensures.judged in
    ends_idle run_taken (IsIdle c.args.recorder []) (RunOwes c.args.purpose g.V.Device.told g.V.Device.faults before c.args.recorder []) (run_steps (command_for c.args.purpose) true c.args.name.now)
    (cabinet c.args.cabinet.now) (cabinet c.take_run.new.cabinet) (printer c.args.printer.now) c.in-Err.stop c.from.result c.from.ensures
    (record { trace = c.requires; turns = refl }) judged
