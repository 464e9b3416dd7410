use Rattle.std.proofs.Common.{◌≢◌, ℕ, List, [], ◌∷◌, Result, Ok, Err, subst}
use Rattle.std.specs.Prelude.{IfOk}
use Rattle.std.proofs.lemmas.Result.{IfOk-weaker}
use Rattle.esa_envelope.specs.declared.keys.Keys.{Keys}
use Rattle.esa_shuffle.specs.Loading.{HasGiven}
use Rattle.esa_shuffle.specs.Records.{IsShuffledFrom}
use Rattle.esa_shuffle.specs.Runs.{seen_of}
use Rattle.esa_taking.specs.RunTaken.{run_taken}
use Rattle.esa_running.proofs.Turned.{ended_by_turns, few_handed_in, handed_in_are}
use Rattle.esa_running.proofs.shuffle_mode.shuffle_by_turns.Goals as goal

-- both are so where it ran
with_both : {T E : Type 0} (result : Result T E) (One Other : T → Type 0) → IfOk result One → IfOk result Other → IfOk result (λ x. One x × Other x)
with_both (Ok x) One Other one other = (one, other)
with_both (Err e) One Other one other = tt

pub returns-clause-ends : goal.returns-clause-ends
returns-clause-ends g c =
    let asked = run_taken c.args.input.now in
    let device = g.V.Device.faults c.args.recorder.device in
    let batch = g.B.Records.faults c.args.batch.now in
    let now = g.B.Records.faults c.run_turns.new.batch in
    IfOk-weaker c.run_turns.result _ _
    (λ ran both. ended_by_turns asked c.args.input.now.plan c.block_keys.result (seen_of g.V.Device.faults device batch ran.recorder ran.history now) ran.recorder.last ran.failures ran.outcome
    c.requires.taken.plan c.block_keys.ensures c.requires.mode both.0 both.1) (with_both c.run_turns.result _ _ c.run_turns.ensures.ends c.run_turns.ensures.cut)

pub returns-clause-few : goal.returns-clause-few
returns-clause-few g c = IfOk-weaker c.run_turns.result _ _ (λ ran _. few_handed_in (run_taken c.args.input.now) ran.history c.requires.mode) c.run_turns.ensures.ends

pub returns-clause-given : goal.returns-clause-given
returns-clause-given g c =
    let asked = run_taken c.args.input.now in
    let p = c.args.input.now.plan in
    let batch = c.args.batch.now in
    let now = c.run_turns.new.batch in
    IfOk-weaker c.run_turns.result _ _
    (λ ran gave.
    subst (λ (x : Keys × Keys × List (List ℕ)). HasGiven p (g.B.Records.told batch) (g.B.Records.part (g.B.Records.grounds batch)) (g.B.Records.heard batch) (g.B.Records.heard now) (ran.history ≢ p.workers ∷ [])
    (IsShuffledFrom p asked.draws x.2 x.0 x.1 ran.history ran.recorder.log ran.outcome))
    (λ i. (c.outer_keys.ensures i, c.block_keys.ensures i, handed_in_are asked p ran.history c.requires.taken.plan c.requires.mode i)) gave)
    c.run_turns.ensures.given
