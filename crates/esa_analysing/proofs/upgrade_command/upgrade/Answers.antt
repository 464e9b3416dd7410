use Rattle.std.proofs.Common.{◌≡◌, ap, sym, subst, refl, arith}
use Rattle.std.specs.Prelude.{unwrap_or, []}
use Rattle.esa_params.specs.declared.form.Form.TheVariants.{Two}
use Rattle.esa_job.specs.Seen.{request_of}
use Rattle.esa_job.specs.declared.command.Command.TheVariants.{Upgrade}
use Rattle.esa_job.specs.declared.field.JobField.TheVariants as field
use Rattle.esa_command.specs.Settled.{Settles}
use Rattle.esa_command.specs.Stand.{stand}
use Rattle.esa_command.specs.Step.{accepted}
use Rattle.esa_command.specs.Taking.{name_of}
use Rattle.esa_command.specs.Work.{Work}
use Rattle.esa_command.proofs.Composition.{judged_stop, judged_made, judged_wider}
use Rattle.esa_command.proofs.Ending.{ends_stop, ends_work}
use Rattle.esa_analysing.specs.Analyse.{database_work}
use Rattle.esa_analysing.specs.Database.{database_input}
use Rattle.esa_analysing.specs.DatabaseTaken.{database_taken}
use Rattle.esa_analysing.specs.Upgrade.{upgrade_steps, upgrade_work}
use Rattle.esa_analysing.proofs.upgrade_command.upgrade.Goals as goal

pub returns-in-Ok : goal.returns-in-Ok
returns-in-Ok g c =
    let cabinet = stand g.K.Cabinet.told g.K.Cabinet.faults g.K.Cabinet.heard in
    let printer = stand g.P.Printer.told g.P.Printer.faults g.P.Printer.heard in
    let before = cabinet c.args.cabinet.now in
    let middle = cabinet c.take_job_and_database.new.cabinet in
    let now = cabinet c.work_upgrade.new.cabinet in
    let name = c.args.name.now in
    let input = c.in-Ok.input in
    let work = upgrade_work (database_taken input) in
    let steps = upgrade_steps c.args.crew_allowed name in
    let output : c.output.result.now ≡ name_of (request_of input.job) field.Output = sym (ap (λ name. unwrap_or name []) c.output.ensures) in
    ends_work (λ (work : Work). work) steps before middle now (printer c.args.printer.now) (printer c.work_upgrade.new.printer) c.work_upgrade.result work
    (judged_wider 0 5 6 (λ (work : Work). work) steps before middle _ (omega arith)
    (judged_made 0 5 database_taken (λ (work : Work). work) (database_input Upgrade c.args.crew_allowed name) (λ all. accepted (upgrade_work all)) input before middle c.in-Ok.ensures.judged work refl))
    (subst (λ to. Settles (database_work to Two input.db.database) middle now (printer c.args.printer.now) (printer c.work_upgrade.new.printer) c.work_upgrade.result) output c.work_upgrade.ensures)

pub returns-in-Err : goal.returns-in-Err
returns-in-Err g c =
    let cabinet = stand g.K.Cabinet.told g.K.Cabinet.faults g.K.Cabinet.heard in
    let printer = stand g.P.Printer.told g.P.Printer.faults g.P.Printer.heard in
    let before = cabinet c.args.cabinet.now in
    let middle = cabinet c.take_job_and_database.new.cabinet in
    let name = c.args.name.now in
    ends_stop (λ (work : Work). work) (upgrade_steps c.args.crew_allowed name) before middle (printer c.args.printer.now) c.in-Err.stop c.from.result c.from.ensures
    (judged_stop 0 0 5 6 database_taken (λ (work : Work). work) (database_input Upgrade c.args.crew_allowed name) (λ _ all. accepted (upgrade_work all)) before middle c.in-Err.stop (omega arith) c.in-Err.ensures.judged)
