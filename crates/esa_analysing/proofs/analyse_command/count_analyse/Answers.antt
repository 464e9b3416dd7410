use Rattle.std.proofs.Common.{◌≡◌, sym}
use Rattle.std.proofs.lemmas.Result.{err_from_is_err_and}
use Rattle.esa_job.specs.Seen.{request_of}
use Rattle.esa_job.specs.declared.field.JobField.TheVariants as field
use Rattle.esa_command.specs.Stand.{stand}
use Rattle.esa_command.specs.Taking.{name_of}
use Rattle.esa_command.proofs.Composition.{judged_as, judged_out}
use Rattle.esa_analysing.specs.declared.analyse_command.AnalyseCount.{AnalyseCount}
use Rattle.esa_analysing.specs.Analyse.{analyse_steps, database_work}
use Rattle.esa_analysing.specs.AnalyseTaken.{analyse_taken, analyse_counted}
use Rattle.esa_analysing.proofs.analyse_command.count_analyse.Goals as goal

pub returns-in_err-analysis-clause-judged : goal.returns-in_err-analysis-clause-judged
returns-in_err-analysis-clause-judged g c =
    let p = err_from_is_err_and c.from_residual-in_err-analysis.result c.from_residual-in_err-analysis.ensures.1 in
    let stands = stand g.K.Cabinet.told g.K.Cabinet.faults g.K.Cabinet.heard in
    rw (p.1, p.2) (judged_out 0 6 analyse_taken analyse_counted (analyse_steps c.args.crew_allowed c.args.name.now) (stands c.args.cabinet.now) (stands c.take_analyse.new.cabinet) c.in_ok-job.field-0 c.in_ok-job.ensures.judged)

pub returns-clause-judged : goal.returns-clause-judged
returns-clause-judged g c =
    let stands = stand g.K.Cabinet.told g.K.Cabinet.faults g.K.Cabinet.heard in
    let count : AnalyseCount = record { job = c.in_ok-job.field-0.job; analysis = c.in_ok-analysis.analysis } in
    let same : analyse_taken c.in_ok-job.field-0 ≡ analyse_counted count =
    λ i. database_work (name_of (request_of c.in_ok-job.field-0.job) field.Output) (sym c.in_ok-analysis.ensures.form i) (sym c.in_ok-analysis.ensures.database i) in
    judged_as 0 6 analyse_taken analyse_counted (analyse_steps c.args.crew_allowed c.args.name.now) (stands c.args.cabinet.now) (stands c.take_analyse.new.cabinet) c.in_ok-job.field-0 count same c.in_ok-job.ensures.judged
