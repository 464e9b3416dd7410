use Rattle.std.proofs.Common.{◌≡◌, sym, ◌∙◌}
use Rattle.esa_refusal.specs.Status.{status_text}
use Rattle.esa_command.specs.Stand.{stand}
use Rattle.esa_command.proofs.Lines.{line_told}
use Rattle.esa_command.proofs.telling.tell.Goals as goal

pub returns-in-Ok-clause-tells : goal.returns-in-Ok-clause-tells
returns-in-Ok-clause-tells g c =
    let stands = stand g.P.Printer.told g.P.Printer.faults g.P.Printer.heard in
    let text : status_text c.in-Stopped.status ≡ c.as_bytes.result.now = sym (c.as_bytes.ensures ∙ c.line_of-line.ensures) in
    rw (c.in-Stopped.is, text) (line_told c.as_bytes.result.now (stands c.args.printer.now) (stands c.line.new.self) c.line.ensures.silent c.in-Ok.ensures.printed c.in-Ok.ensures.heard)
