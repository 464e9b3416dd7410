use Rattle.std.proofs.Common.{◌≡◌, ◌∙◌, ◌<◌, ◌^◌, length, sym, ap, subst}
use Rattle.std.specs.Prelude.{All, option_map}
use Rattle.esa_params.specs.Sizes.{ArePlanned}
use Rattle.esa_spec.specs.Traces.{trace}
use Rattle.esa_job.specs.Seen.{request_of}
use Rattle.esa_model.specs.Forecast.{made, verdicts}
use Rattle.esa_model.specs.Turns.{AreWorkers}
use Rattle.esa_trace.proofs.AttemptLaws.{attempts_fit}
use Rattle.esa_trace.proofs.NumberLaws.{number_fits}
use Rattle.esa_command.specs.Settled.{Settles}
use Rattle.esa_command.specs.Stand.{stand}
use Rattle.esa_shuffling.specs.Drawn.{draws_of}
use Rattle.esa_shuffling.specs.Plan.{forecast_work}
use Rattle.esa_shuffling.specs.PlanTaken.{plan_taken}
use Rattle.esa_shuffling.specs.Shuffle.{sizes_asked}
use Rattle.esa_shuffling.proofs.Turning.{made_few}
use Rattle.esa_shuffling.proofs.plan_command.foretell_plan.Goals as goal

pub work_plan-requires-clause-attempts : goal.work_plan-requires-clause-attempts
work_plan-requires-clause-attempts g c =
    let p = c.in_ok-predictor.predictor in
    let draws = draws_of c.args.input.now.coins in
    let turns = c.args.input.now.turns in
    let planned : ArePlanned p = subst ArePlanned (sym c.in_ok-predictor.ensures) c.plan_of.ensures.planned in
    subst (All (λ access. access.attempt < 256)) (sym c.run-forecast.ensures.accesses) (attempts_fit p draws (made p draws turns) planned (made_few p draws turns))

pub work_plan-requires-clause-number : goal.work_plan-requires-clause-number
work_plan-requires-clause-number g c =
    let p = c.in_ok-predictor.predictor in
    let draws = draws_of c.args.input.now.coins in
    let turns = c.args.input.now.turns in
    let planned : ArePlanned p = subst ArePlanned (sym c.in_ok-predictor.ensures) c.plan_of.ensures.planned in
    subst (λ xs. length xs < 2 ^ 32) (sym c.run-forecast.ensures.accesses) (number_fits p draws (made p draws turns) planned (made_few p draws turns))

pub returns : goal.returns
returns g c =
    let cabinet = stand g.K.Cabinet.told g.K.Cabinet.faults g.K.Cabinet.heard in
    let printer = stand g.P.Printer.told g.P.Printer.faults g.P.Printer.heard in
    let input = c.args.input.now in
    let job = request_of input.job in
    let draws = draws_of input.coins in
    let turns = input.turns in
    let sizes : c.in_ok-predictor.predictor ≡ sizes_asked job = c.in_ok-predictor.ensures ∙ c.plan_of.ensures.value in
    let ends : c.run-forecast.result.now.verdicts ≡ verdicts (sizes_asked job) draws 0 (made (sizes_asked job) draws turns) =
    c.run-forecast.ensures.verdicts ∙ ap (λ p. verdicts p draws 0 (made p draws turns)) sizes in
    let asks : c.run-forecast.result.now.accesses ≡ trace (sizes_asked job) draws (made (sizes_asked job) draws turns) =
    c.run-forecast.ensures.accesses ∙ ap (λ p. trace p draws (made p draws turns)) sizes in
    let same : forecast_work (option_map (λ name. name.now) c.trace.result) c.run-forecast.result.now.verdicts c.run-forecast.result.now.accesses ≡ plan_taken input =
    λ i. forecast_work (c.trace.ensures i) (ends i) (asks i) in
    subst (λ work. Settles work (cabinet c.args.cabinet.now) (cabinet c.work_plan.new.cabinet) (printer c.args.printer.now) (printer c.work_plan.new.printer) c.work_plan.result) same c.work_plan.ensures

pub run-forecast-requires-clause-workers : goal.run-forecast-requires-clause-workers
run-forecast-requires-clause-workers g c =
    let workers : (sizes_asked (request_of c.args.input.now.job)).workers ≡ c.in_ok-predictor.predictor.workers = sym (ap (λ p. p.workers) (c.in_ok-predictor.ensures ∙ c.plan_of.ensures.value)) in
    subst (λ n. AreWorkers n c.args.input.now.turns) workers c.requires.workers
