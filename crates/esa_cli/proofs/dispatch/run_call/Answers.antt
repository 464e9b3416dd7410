use Rattle.std.proofs.Common.{false, [], refl}
use Rattle.esa_command.specs.Stand.{stand}
use Rattle.esa_cli.proofs.Steps.{deviceless, ends_other}
use Rattle.esa_cli.proofs.dispatch.run_call.Goals as goal

pub run_alone-requires-clause-alone : goal.run_alone-requires-clause-alone
run_alone-requires-clause-alone g c = deviceless c.args.call.command c.args.call.job.now c.in_default.not-Shuffle c.in_default.not-Run

pub returns-in_default-clause-ends : goal.returns-in_default-clause-ends
returns-in_default-clause-ends g c =
    let cabinet = stand g.K.Cabinet.told g.K.Cabinet.faults g.K.Cabinet.heard in
    let printer = stand g.P.Printer.told g.P.Printer.faults g.P.Printer.heard in
    ends_other g.V.Device.told g.V.Device.faults (record { recorder = c.args.recorder; recorder_now = c.args.recorder; history = [] }) false (c.args.call.command, c.args.call.job.now)
    (cabinet c.args.cabinet.now) (cabinet c.run_alone.new.cabinet) (printer c.args.printer.now) (printer c.run_alone.new.printer) c.run_alone.result (refl, refl)
    (deviceless c.args.call.command c.args.call.job.now c.in_default.not-Shuffle c.in_default.not-Run) c.run_alone.ensures.ends
