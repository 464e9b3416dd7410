-- What is said of the run on the opened turnstile is so for the plan and the keys that were handed in.
use Rattle.std.proofs.Common.{◌≢◌, ◌+◌, ◌<◌, ◌≤◌, [], ◌∷◌, get_or, length, sym, subst}
use Rattle.esa_crew.specs.Posts.{IsNewWorker}
use Rattle.esa_envelope.specs.declared.keys.Keys.{Keys}
use Rattle.esa_params.specs.Sizes.{Sizes}
use Rattle.esa_shuffle.specs.Loading.{HasGiven}
use Rattle.esa_shuffle.specs.Records.{IsShuffledFrom}
use Rattle.esa_shuffle.specs.Runs.{AreFresh}
use Rattle.esa_spec.specs.Histories.{lists}
use Rattle.esa_turnstile.specs.Passes.{opened_of}
use Rattle.esa_parallel.specs.Crews.{AllAreDone, AllTookPart}
use Rattle.esa_parallel.proofs.Opening.{ends_same}
use Rattle.esa_parallel.proofs.crew.run_told.Goals as goal

pub run_opened-requires-clause-numbers : goal.run_opened-requires-clause-numbers
run_opened-requires-clause-numbers g c = λ lives outlive x d inside. c.in-Ok-open.ensures.numbers x d (subst (λ (q : Sizes). x < q.workers + 1) c.requires.plan inside)

pub run_opened-requires-clause-made : goal.run_opened-requires-clause-made
run_opened-requires-clause-made g c = λ lives outlive k w inside.
    let coins = c.args.coins.now in
    let floor = opened_of c.in-Ok-open.opened.turnstile in
    let worker = get_or c.in-Ok.tools.workers.items k w in
    subst (λ (q : Sizes). IsNewWorker coins q floor.outer floor.run k worker) (sym c.requires.plan)
    (subst (λ (x : Keys). IsNewWorker coins c.args.plan x floor.run k worker) (sym c.in-Ok-open.ensures.outer)
    (subst (λ (x : Keys). IsNewWorker coins c.args.plan c.args.outer x k worker) (sym c.in-Ok-open.ensures.run)
    (c.in-Ok.ensures.made k w (subst (λ (q : Sizes). k < q.workers) c.requires.plan inside))))

pub returns-in-Ok-open-clause-ends : goal.returns-in-Ok-open-clause-ends
returns-in-Ok-open-clause-ends g c =
    let ran = c.run_opened.result in
    ends_same g.V.Device.faults g.G.Told.draws g.G.Told.plan c.args.plan _ c.args.run _ (g.V.Device.faults c.args.recorder.device) (g.B.Records.faults c.args.batch.now) (g.B.Records.faults c.run_opened.new.batch)
    ran.recorder ran.history ran.failures ran.outcome c.requires.plan c.in-Ok-open.ensures.run c.in-Ok-open.ensures.faults c.run_opened.ensures.ends

pub returns-in-Ok-open-clause-few : goal.returns-in-Ok-open-clause-few
returns-in-Ok-open-clause-few g c = subst (λ (q : Sizes). length (lists q.workers c.run_opened.result.history) ≤ q.attempts) c.requires.plan c.run_opened.ensures.few

pub returns-in-Ok-open-clause-took_part : goal.returns-in-Ok-open-clause-took_part
returns-in-Ok-open-clause-took_part g c =
    subst (λ (q : Sizes). AllTookPart q (lists q.workers c.run_opened.result.history)) c.requires.plan c.run_opened.ensures.took_part

pub returns-in-Ok-open-clause-done : goal.returns-in-Ok-open-clause-done
returns-in-Ok-open-clause-done g c =
    let ran = c.run_opened.result in
    subst (λ (q : Sizes). AllAreDone q g.G.Told.draws (lists q.workers ran.history) ran.outcome) c.requires.plan c.run_opened.ensures.done

pub returns-in-Ok-open-clause-given : goal.returns-in-Ok-open-clause-given
returns-in-Ok-open-clause-given g c =
    let p = g.G.Told.plan in
    let ds = g.G.Told.draws in
    let ran = c.run_opened.result in
    let floor = opened_of c.in-Ok-open.opened.turnstile in
    let told = g.B.Records.told c.args.batch.now in
    let part = g.B.Records.part (g.B.Records.grounds c.args.batch.now) in
    let before = g.B.Records.heard c.args.batch.now in
    let after = g.B.Records.heard c.run_opened.new.batch in
    subst (λ (q : Sizes). HasGiven q told part before after (ran.history ≢ q.workers ∷ [])
    (IsShuffledFrom q ds (lists q.workers ran.history) c.args.outer c.args.run ran.history ran.recorder.log ran.outcome)) c.requires.plan
    (subst (λ (k : Keys). HasGiven p told part before after (ran.history ≢ p.workers ∷ [])
    (IsShuffledFrom p ds (lists p.workers ran.history) c.args.outer k ran.history ran.recorder.log ran.outcome)) c.in-Ok-open.ensures.run
    (subst (λ (k : Keys). HasGiven p told part before after (ran.history ≢ p.workers ∷ [])
    (IsShuffledFrom p ds (lists p.workers ran.history) k floor.run ran.history ran.recorder.log ran.outcome)) c.in-Ok-open.ensures.outer c.run_opened.ensures.given))

pub returns-in-Ok-open-clause-fresh : goal.returns-in-Ok-open-clause-fresh
returns-in-Ok-open-clause-fresh g c = subst (λ (q : Sizes). AreFresh q c.run_opened.result.recorder.trace) c.requires.plan c.run_opened.ensures.fresh
