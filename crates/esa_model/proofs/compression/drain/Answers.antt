use Rattle.std.proofs.Common.{ℕ, ◌<◌, ◌≤◌, Bool, cond, Option, Some, None, ap, sym, ◌∙◌, arith, add-one}
use Rattle.std.specs.Option.{option_or}
use Rattle.std.specs.Prelude.{find}
use Rattle.std.proofs.lemmas.Bool.{lt-ltb, le-ltb}
use Rattle.esa_params.specs.Sizes.{Sizes, below}
use Rattle.esa_laws.proofs.Ranges.{find-below-suc}
use Rattle.esa_spec.specs.Traces.{written_tail}
use Rattle.esa_model.specs.Walked.{is_over}
use Rattle.esa_model.specs.Passed.{waiting_at}
use Rattle.esa_model.proofs.StepLemmas.{recorded-more, length-recorded, find-here}
use Rattle.esa_model.proofs.compression.drain.Goals as goal

pub push-requires : goal.push-requires
push-requires c =
    let so_far = length-recorded (written_tail c.args.lines.now.p c.args.attempt) c.loop-target.target c.args.trace.now c.loop-target.trace c.loop-target.invariant.traced in
    omega (arith, so_far.0, so_far.1, c.requires.room, c.loop-target-test.true, ap (λ (q : Sizes). q.b) c.plan-plan.ensures.value)

pub returns-then-k-waiting-clause-over : goal.returns-then-k-waiting-clause-over
returns-then-k-waiting-clause-over c =
    let p = c.args.lines.now.p in
    let inside : c.loop-target.target < p.b = omega (arith, c.loop-target-test.true, ap (λ (q : Sizes). q.b) c.plan-plan.ensures.value) in
    let over : p.k < waiting_at c.args.lines.now c.loop-target.target = omega (arith, c.if-k-waiting.true, ap (λ (q : Sizes). q.k) c.plan-plan.ensures.value) in
    sym (find-here (is_over c.args.lines.now) c.loop-target.target p.b inside c.loop-target.invariant.none (lt-ltb p.k (waiting_at c.args.lines.now c.loop-target.target) over))

pub loop-target-preserved : goal.loop-target-preserved
loop-target-preserved c =
    let p = c.args.lines.now.p in
    let target = c.loop-target.target in
    let few : waiting_at c.args.lines.now target ≤ p.k = omega (arith, c.if-k-waiting.false, ap (λ (q : Sizes). q.k) c.plan-plan.ensures.value) in
    record {
      none =
          ap (λ (n : ℕ). find (is_over c.args.lines.now) (below n)) (add-one target)
          ∙ find-below-suc (is_over c.args.lines.now) target
          ∙ ap (λ (o : Option ℕ). option_or o (cond (is_over c.args.lines.now target) (Some target) None)) c.loop-target.invariant.none
          ∙ ap (λ (b : Bool). cond {A = Option ℕ} b (Some target) None) (le-ltb p.k (waiting_at c.args.lines.now target) few);
      traced =
          c.push.ensures
          ∙ recorded-more (written_tail p c.args.attempt) target c.args.trace.now c.loop-target.trace c.access.result c.loop-target.invariant.traced
          (c.access.ensures ∙ ap (λ (q : Sizes). written_tail q c.args.attempt target) c.plan-plan.ensures.value);
    }
