use Rattle.esa_command.specs.Stand.{stand}
use Rattle.esa_command.proofs.Settling.{prints_line}
use Rattle.esa_command.proofs.doing.print_line.Goals as goal

pub returns : goal.returns
returns g c =
    let stands = stand g.P.Printer.told g.P.Printer.faults g.P.Printer.heard in
    prints_line c.line.result c.args.text.now (stands c.args.printer.now) (stands c.line.new.self) c.line.ensures.cause c.line.ensures.printed c.line.ensures.failed c.line.ensures.silent c.line.ensures.heard
