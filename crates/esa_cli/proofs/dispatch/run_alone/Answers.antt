use Rattle.esa_command.specs.Stand.{stand}
use Rattle.esa_cli.proofs.Steps.{ends_unbuilt, others_unbuilt}
use Rattle.esa_cli.proofs.dispatch.run_alone.Goals as goal

pub returns-in_default-clause-ends : goal.returns-in_default-clause-ends
returns-in_default-clause-ends g c =
    let cabinet = stand g.K.Cabinet.told g.K.Cabinet.faults g.K.Cabinet.heard in
    let printer = stand g.P.Printer.told g.P.Printer.faults g.P.Printer.heard in
    let other = c.in_default in
    ends_unbuilt g.S.Performs.crews (c.args.call.command, c.args.call.job.now) (cabinet c.args.cabinet.now) (printer c.args.printer.now)
    (others_unbuilt c.args.call.command c.args.call.job.now c.requires.alone other.not-Gen other.not-Encode other.not-Batch other.not-Intake other.not-Analyse other.not-Histogram other.not-Upgrade other.not-Recover other.not-Plan)
