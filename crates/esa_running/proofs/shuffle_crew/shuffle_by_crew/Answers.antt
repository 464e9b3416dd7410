use Rattle.std.proofs.Common.{◌≢◌, ◌≤◌, ℕ, List, [], ◌∷◌, length, subst}
use Rattle.std.proofs.lemmas.Result.{IfOk-weaker}
use Rattle.esa_envelope.specs.declared.keys.Keys.{Keys}
use Rattle.esa_params.specs.Sizes.{Sizes}
use Rattle.esa_spec.specs.Histories.{lists}
use Rattle.esa_shuffle.specs.Loading.{HasGiven}
use Rattle.esa_shuffle.specs.Records.{IsShuffledFrom}
use Rattle.esa_shuffle.specs.Runs.{seen_of}
use Rattle.esa_taking.specs.RunTaken.{run_taken}
use Rattle.esa_running.proofs.Turned.{ended_by_crew, few_stored, stored_are}
use Rattle.esa_running.proofs.shuffle_crew.shuffle_by_crew.Goals as goal

pub returns-clause-ends : goal.returns-clause-ends
returns-clause-ends g c =
    let asked = run_taken c.args.input.now in
    let device = g.V.Device.faults c.args.recorder.device in
    let batch = g.B.Records.faults c.args.batch.now in
    let now = g.B.Records.faults c.run_crew.new.batch in
    IfOk-weaker c.run_crew.result _ _
    (λ ran. ended_by_crew asked c.args.input.now.plan c.block_keys.result (seen_of g.V.Device.faults device batch ran.recorder ran.history now) ran.recorder.last ran.failures ran.outcome
    c.requires.taken.plan c.block_keys.ensures c.requires.mode) c.run_crew.ensures.ends

pub returns-clause-few : goal.returns-clause-few
returns-clause-few g c =
    let asked = run_taken c.args.input.now in
    IfOk-weaker c.run_crew.result _ _
    (λ ran few. few_stored asked ran.history c.requires.mode (subst (λ (p : Sizes). length (lists p.workers ran.history) ≤ p.attempts) c.requires.taken.plan few)) c.run_crew.ensures.few

pub returns-clause-given : goal.returns-clause-given
returns-clause-given g c =
    let asked = run_taken c.args.input.now in
    let p = c.args.input.now.plan in
    let batch = c.args.batch.now in
    let now = c.run_crew.new.batch in
    IfOk-weaker c.run_crew.result _ _
    (λ ran gave.
    subst (λ (x : Keys × Keys × List (List ℕ)). HasGiven p (g.B.Records.told batch) (g.B.Records.part (g.B.Records.grounds batch)) (g.B.Records.heard batch) (g.B.Records.heard now) (ran.history ≢ p.workers ∷ [])
    (IsShuffledFrom p asked.draws x.2 x.0 x.1 ran.history ran.recorder.log ran.outcome))
    (λ i. (c.outer_keys.ensures i, c.block_keys.ensures i, stored_are asked p ran.history c.requires.taken.plan c.requires.mode i)) gave)
    c.run_crew.ensures.given
