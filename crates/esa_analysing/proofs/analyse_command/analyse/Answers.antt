use Rattle.std.proofs.Common.{◌≡◌, ap, sym, subst}
use Rattle.std.specs.Prelude.{unwrap_or, []}
use Rattle.esa_job.specs.Seen.{request_of}
use Rattle.esa_job.specs.declared.field.JobField.TheVariants as field
use Rattle.esa_command.specs.Settled.{Settles}
use Rattle.esa_command.specs.Stand.{stand}
use Rattle.esa_command.specs.Taking.{name_of}
use Rattle.esa_command.proofs.Ending.{ends_stop, ends_work}
use Rattle.esa_analysing.specs.Analyse.{analyse_steps, database_work}
use Rattle.esa_analysing.specs.AnalyseTaken.{analyse_counted}
use Rattle.esa_analysing.proofs.analyse_command.analyse.Goals as goal

pub returns-in-Ok : goal.returns-in-Ok
returns-in-Ok g c =
    let cabinet = stand g.K.Cabinet.told g.K.Cabinet.faults g.K.Cabinet.heard in
    let printer = stand g.P.Printer.told g.P.Printer.faults g.P.Printer.heard in
    let count = c.in-Ok.count in
    let output : c.output.result.now ≡ name_of (request_of count.job) field.Output = sym (ap (λ name. unwrap_or name []) c.output.ensures) in
    ends_work analyse_counted (analyse_steps c.args.crew_allowed c.args.name.now) (cabinet c.args.cabinet.now) (cabinet c.count_analyse.new.cabinet) (cabinet c.work_analyse.new.cabinet)
    (printer c.args.printer.now) (printer c.work_analyse.new.printer) c.work_analyse.result count c.in-Ok.ensures.judged
    (subst (λ name. Settles (database_work name count.analysis.form count.analysis.database) (cabinet c.count_analyse.new.cabinet) (cabinet c.work_analyse.new.cabinet)
    (printer c.args.printer.now) (printer c.work_analyse.new.printer) c.work_analyse.result) output c.work_analyse.ensures)

pub returns-in-Err : goal.returns-in-Err
returns-in-Err g c =
    let cabinet = stand g.K.Cabinet.told g.K.Cabinet.faults g.K.Cabinet.heard in
    let printer = stand g.P.Printer.told g.P.Printer.faults g.P.Printer.heard in
    ends_stop analyse_counted (analyse_steps c.args.crew_allowed c.args.name.now) (cabinet c.args.cabinet.now) (cabinet c.count_analyse.new.cabinet) (printer c.args.printer.now) c.in-Err.stop c.from.result c.from.ensures c.in-Err.ensures.judged
