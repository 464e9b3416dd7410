-- The floor and the tools that were made are those of the plan.
use Rattle.std.proofs.Common.{◌≢◌, ℕ, ◌<◌, [], ◌∷◌, length, get_or, sym, ap, ◌∙◌, subst, arith}
use Rattle.std.proofs.lemmas.List.{length-map, nil_from_length}
use Rattle.esa_device.specs.Logs.{Carried}
use Rattle.esa_envelope.specs.declared.keys.Keys.{Keys}
use Rattle.esa_params.specs.Sizes.{ArePlanned, Sizes}
use Rattle.esa_floor.specs.Parts.{Parts}
use Rattle.esa_spec.specs.Histories.{lists}
use Rattle.esa_model.specs.Forecast.{made}
use Rattle.esa_model.specs.Turns.{AreWorkers}
use Rattle.esa_shuffle.specs.Loading.{HasGiven}
use Rattle.esa_shuffle.specs.Records.{IsShuffledFrom}
use Rattle.esa_shuffle.specs.Runs.{AreFresh, EndWithCut, EndsRun, opens_last, seen_of}
use Rattle.esa_shuffle.proofs.Ending.{fresh}
use Rattle.esa_shuffle.proofs.Taking.{is_member}
use Rattle.esa_shuffle.proofs.shuffle.run_told.Goals as goal

pub run_on-requires-clause-members : goal.run_on-requires-clause-members
run_on-requires-clause-members g c = λ k w inside.
    let parts = c.in-Ok-make-2.ensures.parts in
    let each = c.in-Ok.ensures.each in
    let within : k < c.args.plan.workers = omega (arith, inside, each) in
    is_member g.G.Told.draws g.C.Coins.target_list g.C.Coins.order_list c.in-Ok-make-2.floor c.args.coins.now c.args.plan c.args.outer c.args.run k (get_or c.in-Ok.tools.workers.items k w)
    (ap (λ (x : Parts _). x.plan) parts) (ap (λ (x : Parts _). x.outer) parts) (ap (λ (x : Parts _). x.run) parts) c.requires.draws within (c.in-Ok.ensures.made k w within)

pub run_on-requires-clause-numbers : goal.run_on-requires-clause-numbers
run_on-requires-clause-numbers g c = subst (λ (q : Sizes). AreWorkers q.workers c.args.turns.now) (sym c.requires.plan) c.requires.numbers

pub returns-in-Ok-make-2-clause-ends : goal.returns-in-Ok-make-2-clause-ends
returns-in-Ok-make-2-clause-ends g c =
    let parts = c.in-Ok-make-2.ensures.parts in
    let ran = c.run_on.result in
    let ds = g.G.Told.draws in
    let before = g.R.Records.faults c.args.batch.now in
    let now = g.R.Records.faults c.run_on.new.batch in
    let turns = c.args.turns.now in
    subst (λ (q : Sizes). EndsRun q ds (made q ds turns) (seen_of g.V.Device.faults (g.V.Device.faults c.args.recorder.device) before ran.recorder ran.history now) (opens_last q c.args.run ran.recorder.last) ran.failures ran.outcome) c.requires.plan
    (subst (λ (k : Keys). EndsRun g.G.Told.plan ds (made g.G.Told.plan ds turns) (seen_of g.V.Device.faults (g.V.Device.faults c.args.recorder.device) before ran.recorder ran.history now) (opens_last g.G.Told.plan k ran.recorder.last) ran.failures ran.outcome)
    (ap (λ (x : Parts _). x.run) parts)
    (subst (λ (n : ℕ). EndsRun g.G.Told.plan ds (made g.G.Told.plan ds turns) (seen_of g.V.Device.faults n before ran.recorder ran.history now) (opens_last g.G.Told.plan c.in-Ok-make-2.floor.run ran.recorder.last) ran.failures ran.outcome)
    (ap (λ (x : Parts _). x.faults) parts) c.run_on.ensures.ends))

pub returns-in-Ok-make-2-clause-fresh : goal.returns-in-Ok-make-2-clause-fresh
returns-in-Ok-make-2-clause-fresh g c =
    let ran = c.run_on.result in
    let p = g.G.Told.plan in
    let ds = g.G.Told.draws in
    subst (λ (q : Sizes). AreFresh q ran.recorder.trace) c.requires.plan
    (fresh p ds (made p ds c.args.turns.now)
    (seen_of g.V.Device.faults c.in-Ok-make-2.floor.faults (g.R.Records.faults c.args.batch.now) ran.recorder ran.history (g.R.Records.faults c.run_on.new.batch))
    (opens_last p c.in-Ok-make-2.floor.run ran.recorder.last) ran.failures ran.outcome c.run_on.ensures.ends
    (subst ArePlanned (sym c.requires.plan) c.most_entries-entries.ensures.planned))

pub returns-in-Ok-make-2-clause-given : goal.returns-in-Ok-make-2-clause-given
returns-in-Ok-make-2-clause-given g c =
    let parts = c.in-Ok-make-2.ensures.parts in
    let ran = c.run_on.result in
    let ds = g.G.Told.draws in
    let turns = c.args.turns.now in
    let told = g.R.Records.told c.args.batch.now in
    let part = g.R.Records.part (g.R.Records.grounds c.args.batch.now) in
    let before = g.R.Records.heard c.args.batch.now in
    let after = g.R.Records.heard c.run_on.new.batch in
    subst (λ (q : Sizes). HasGiven q told part before after (ran.history ≢ q.workers ∷ []) (IsShuffledFrom q ds (made q ds turns) c.args.outer c.args.run ran.history ran.recorder.log ran.outcome)) c.requires.plan
    (subst (λ (k : Keys). HasGiven g.G.Told.plan told part before after (ran.history ≢ g.G.Told.plan.workers ∷ [])
    (IsShuffledFrom g.G.Told.plan ds (made g.G.Told.plan ds turns) c.args.outer k ran.history ran.recorder.log ran.outcome)) (ap (λ (x : Parts _). x.run) parts)
    (subst (λ (k : Keys). HasGiven g.G.Told.plan told part before after (ran.history ≢ g.G.Told.plan.workers ∷ [])
    (IsShuffledFrom g.G.Told.plan ds (made g.G.Told.plan ds turns) k c.in-Ok-make-2.floor.run ran.history ran.recorder.log ran.outcome)) (ap (λ (x : Parts _). x.outer) parts) c.run_on.ensures.given))

pub run_on-requires-clause-log : goal.run_on-requires-clause-log
run_on-requires-clause-log g c =
    let log = c.args.recorder.log in
    let none = ap length c.keeps_its_log.ensures.accesses ∙ ap length c.requires.trace in
    ap (λ (x : Parts _). x.recorder.log) c.in-Ok-make-2.ensures.parts
    ∙ nil_from_length log (sym (length-map log (λ (entry : Carried). entry.access)) ∙ none)

pub returns-in-Ok-make-2-clause-cut : goal.returns-in-Ok-make-2-clause-cut
returns-in-Ok-make-2-clause-cut g c =
    let ran = c.run_on.result in
    subst (λ (q : Sizes). EndWithCut q (lists q.workers ran.history) (made q g.G.Told.draws c.args.turns.now) ran.recorder.trace ran.outcome) c.requires.plan c.run_on.ensures.cut
