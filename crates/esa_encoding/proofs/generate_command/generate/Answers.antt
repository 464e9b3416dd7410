use Rattle.std.proofs.Common.{◌≡◌, ap, sym, subst, refl, arith}
use Rattle.std.specs.Prelude.{unwrap_or, []}
use Rattle.esa_job.specs.Seen.{request_of}
use Rattle.esa_job.specs.declared.command.Command.TheVariants.{Gen}
use Rattle.esa_job.specs.declared.field.JobField.TheVariants as field
use Rattle.esa_command.specs.Asked.{number_of}
use Rattle.esa_command.specs.Settled.{Settles}
use Rattle.esa_command.specs.Stand.{stand}
use Rattle.esa_command.specs.Step.{accepted}
use Rattle.esa_command.specs.Taking.{name_of, job_file}
use Rattle.esa_command.specs.Work.{Work}
use Rattle.esa_command.proofs.Composition.{judged_stop, judged_made, judged_wider}
use Rattle.esa_command.proofs.Ending.{ends_stop, ends_work}
use Rattle.esa_encoding.specs.Generate.{generate_steps, generate_work, generate_asked}
use Rattle.esa_encoding.proofs.generate_command.generate.Goals as goal

pub returns-in-Ok : goal.returns-in-Ok
returns-in-Ok g c =
    let cabinet = stand g.K.Cabinet.told g.K.Cabinet.faults g.K.Cabinet.heard in
    let printer = stand g.P.Printer.told g.P.Printer.faults g.P.Printer.heard in
    let before = cabinet c.args.cabinet.now in
    let middle = cabinet c.take_job.new.cabinet in
    let now = cabinet c.work_generate.new.cabinet in
    let name = c.args.name.now in
    let job = request_of c.in-Ok.job in
    let steps = generate_steps c.args.crew_allowed name in
    let output : name_of job field.Output ≡ c.output.result.now = ap (λ found. unwrap_or found []) c.output.ensures in
    let number : number_of job field.Number ≡ c.number.result = ap (λ found. unwrap_or found 0) c.number.ensures in
    let crowds : number_of job field.Crowds ≡ c.crowds.result = ap (λ found. unwrap_or found 0) c.crowds.ensures.value in
    let records : number_of job field.Records ≡ c.records.result = ap (λ found. unwrap_or found 0) c.records.ensures.value in
    let same : generate_work c.output.result.now c.number.result c.crowds.result c.records.result ≡ generate_asked job =
    λ i. generate_work (sym output i) (sym number i) (sym crowds i) (sym records i) in
    ends_work (λ (work : Work). work) steps before middle now (printer c.args.printer.now) (printer c.work_generate.new.printer) c.work_generate.result (generate_asked job)
    (judged_wider 0 1 6 (λ (work : Work). work) steps before middle _ (omega arith)
    (judged_made 0 1 request_of (λ (work : Work). work) (job_file Gen c.args.crew_allowed name) (λ all. accepted (generate_asked all)) c.in-Ok.job before middle c.in-Ok.ensures.judged (generate_asked job) refl))
    (subst (λ work. Settles work middle now (printer c.args.printer.now) (printer c.work_generate.new.printer) c.work_generate.result) same c.work_generate.ensures)

pub returns-in-Err : goal.returns-in-Err
returns-in-Err g c =
    let cabinet = stand g.K.Cabinet.told g.K.Cabinet.faults g.K.Cabinet.heard in
    let printer = stand g.P.Printer.told g.P.Printer.faults g.P.Printer.heard in
    let before = cabinet c.args.cabinet.now in
    let middle = cabinet c.take_job.new.cabinet in
    let name = c.args.name.now in
    ends_stop (λ (work : Work). work) (generate_steps c.args.crew_allowed name) before middle (printer c.args.printer.now) c.in-Err.stop c.from.result c.from.ensures
    (judged_stop 0 0 1 6 request_of (λ (work : Work). work) (job_file Gen c.args.crew_allowed name) (λ _ all. accepted (generate_asked all)) before middle c.in-Err.stop (omega arith) c.in-Err.ensures.judged)
