use Rattle.std.proofs.Common.{◌≡◌, ap, sym, subst}
use Rattle.std.specs.Prelude.{unwrap_or, []}
use Rattle.esa_job.specs.Seen.{request_of}
use Rattle.esa_job.specs.declared.field.JobField.TheVariants as field
use Rattle.esa_command.specs.Settled.{Settles}
use Rattle.esa_command.specs.Stand.{stand}
use Rattle.esa_command.specs.Taking.{name_of}
use Rattle.esa_command.proofs.Ending.{ends_stop, ends_work}
use Rattle.esa_analysing.specs.Analyse.{database_work}
use Rattle.esa_analysing.specs.Recover.{recover_steps}
use Rattle.esa_analysing.specs.RecoverTaken.{recover_taken}
use Rattle.esa_analysing.proofs.recover_command.recover.Goals as goal

pub returns-in-Ok : goal.returns-in-Ok
returns-in-Ok g c =
    let cabinet = stand g.K.Cabinet.told g.K.Cabinet.faults g.K.Cabinet.heard in
    let printer = stand g.P.Printer.told g.P.Printer.faults g.P.Printer.heard in
    let before = cabinet c.args.cabinet.now in
    let middle = cabinet c.take_recover.new.cabinet in
    let now = cabinet c.work_recover.new.cabinet in
    let input = c.in-Ok.input in
    let output : c.output.result.now ≡ name_of (request_of input.job) field.Output = sym (ap (λ name. unwrap_or name []) c.output.ensures) in
    ends_work recover_taken (recover_steps c.args.crew_allowed c.args.name.now) before middle now (printer c.args.printer.now) (printer c.work_recover.new.printer) c.work_recover.result input c.in-Ok.ensures.judged
    (subst (λ to. Settles (database_work to input.recovered.form input.recovered.database) middle now (printer c.args.printer.now) (printer c.work_recover.new.printer) c.work_recover.result) output c.work_recover.ensures)

pub returns-in-Err : goal.returns-in-Err
returns-in-Err g c =
    let cabinet = stand g.K.Cabinet.told g.K.Cabinet.faults g.K.Cabinet.heard in
    let printer = stand g.P.Printer.told g.P.Printer.faults g.P.Printer.heard in
    ends_stop recover_taken (recover_steps c.args.crew_allowed c.args.name.now) (cabinet c.args.cabinet.now) (cabinet c.take_recover.new.cabinet) (printer c.args.printer.now) c.in-Err.stop c.from.result c.from.ensures c.in-Err.ensures.judged
