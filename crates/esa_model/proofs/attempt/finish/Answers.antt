use Rattle.std.proofs.Common.{ℕ, ◌+◌, ◌*◌, List, get_or, refl, ap, sym, ◌∙◌, subst, arith}
use Rattle.esa_params.specs.Sizes.{Sizes}
use Rattle.esa_spec.specs.Draws.{Draw}
use Rattle.esa_spec.specs.Traces.{written_tail}
use Rattle.esa_spec.specs.Verdicts.{steps, targets}
use Rattle.esa_model.specs.Passed.{occurrences}
use Rattle.esa_model.specs.Walked.{AreMade, HaveArrived}
use Rattle.esa_model.proofs.AttemptLemmas.{left-is, trace-left, trace-drained, verdict-drained, verdict-left}
use Rattle.esa_model.proofs.StepLemmas.{length-recorded}
use Rattle.esa_model.proofs.attempt.finish.Goals as goal
use Rattle.esa_model.proofs.attempt.finish.Goals.{After-compress}

pub compress-requires-clause-room : goal.compress-requires-clause-room
compress-requires-clause-room c =
    let p = c.args.lines.now.p in
    let long = length-recorded (written_tail p c.args.attempt) p.b c.args.trace.now c.drain.new.trace c.in-None.ensures.trace in
    omega (arith, long.0, long.1, c.requires.room, ap (λ (q : Sizes). q.b * (q.b + 1) + q.b) c.plan.ensures.value)

pub returns-in-Some-clause-verdict : goal.returns-in-Some-clause-verdict
returns-in-Some-clause-verdict c d o lines whole arrived =
    verdict-left c.args.lines.now.p d o c.args.lines.now lines whole c.in-Some.target
    (left-is c.args.lines.now.p d o c.args.lines.now lines whole refl ∙ sym c.in-Some.ensures.over)

pub returns-in-Some-clause-trace : goal.returns-in-Some-clause-trace
returns-in-Some-clause-trace c d o lines whole arrived =
    trace-left c.args.lines.now.p d o c.args.lines.now lines whole c.args.attempt c.in-Some.target c.args.trace.now c.drain.new.trace
    (left-is c.args.lines.now.p d o c.args.lines.now lines whole refl ∙ sym c.in-Some.ensures.over)
    c.in-Some.ensures.trace

-- the steps that were made, by the lines' own sizes
module _ (c : After-compress) (d : Draw) (arrived : HaveArrived c.args.lines.now.p d c.args.lines.now.arrived) where
  arrived-as : HaveArrived c.plan.result.now d c.arrived.result.now
  arrived-as i i_in =
      ap (λ (l : List ℕ). get_or l i 0) c.arrived.ensures.value
      ∙ arrived i (omega (arith, i_in, ap (λ (q : Sizes). q.b) c.plan.ensures.value))
      ∙ ap (λ (q : Sizes). occurrences i (targets q d)) (sym c.plan.ensures.value)

  made-as : AreMade c.args.lines.now.p d c.args.attempt (steps c.args.lines.now.p) c.compress.result c.drain.new.trace c.compress.new.trace
  made-as =
      subst (λ (q : Sizes). AreMade q d c.args.attempt (steps q) c.compress.result c.drain.new.trace c.compress.new.trace) c.plan.ensures.value
      (c.compress.ensures.made d arrived-as)

pub returns-in-None-clause-verdict : goal.returns-in-None-clause-verdict
returns-in-None-clause-verdict c d o lines whole arrived =
    let at = (goal.at.returns-in-None-clause-verdict c).After-compress in
    verdict-drained c.args.lines.now.p d o c.args.lines.now lines whole c.args.attempt c.compress.result c.drain.new.trace c.compress.new.trace
    (left-is c.args.lines.now.p d o c.args.lines.now lines whole refl ∙ sym c.in-None.ensures.over)
    (made-as at d arrived)

pub returns-in-None-clause-trace : goal.returns-in-None-clause-trace
returns-in-None-clause-trace c d o lines whole arrived =
    let at = (goal.at.returns-in-None-clause-trace c).After-compress in
    trace-drained c.args.lines.now.p d o c.args.lines.now lines whole c.args.attempt c.compress.result c.args.trace.now c.drain.new.trace c.compress.new.trace
    (left-is c.args.lines.now.p d o c.args.lines.now lines whole refl ∙ sym c.in-None.ensures.over)
    c.in-None.ensures.trace
    (made-as at d arrived)
