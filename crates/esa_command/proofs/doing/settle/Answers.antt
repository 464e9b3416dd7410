use Rattle.std.proofs.Common.{sym, subst}
use Rattle.esa_command.specs.Doing.{PrintsAll}
use Rattle.esa_command.specs.Settled.{Settles, ending, whole, unprinted}
use Rattle.esa_command.proofs.Settling.{settled_whole, settled_unprinted}
use Rattle.esa_command.proofs.doing.settle.Goals as goal

pub returns-in-Ok : goal.returns-in-Ok
returns-in-Ok c = λ work cabinet cabinet_now printer printer_now same files lines.
    subst (λ ended. Settles work cabinet cabinet_now printer printer_now (ending ended whole)) same
    (settled_whole work cabinet cabinet_now printer printer_now files (subst (PrintsAll work.prints printer printer_now) c.in-Ok.is lines))

pub returns-in-Err : goal.returns-in-Err
returns-in-Err c = λ work cabinet cabinet_now printer printer_now same files lines.
    subst (Settles work cabinet cabinet_now printer printer_now) (sym c.unprinted.ensures)
    (subst (λ ended. Settles work cabinet cabinet_now printer printer_now (ending ended unprinted)) same
    (settled_unprinted work cabinet cabinet_now printer printer_now files (subst (PrintsAll work.prints printer printer_now) c.in-Err.is lines)))
