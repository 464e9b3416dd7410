use Rattle.std.proofs.Common.{◌≡◌, ℕ, ◌+◌, ◌*◌, ◌<◌, List, length, ap, sym, ◌∙◌, subst, arith, length-append}
use Rattle.esa_params.specs.Sizes.{Sizes, size}
use Rattle.esa_laws.proofs.LengthLaws.{spread-le}
use Rattle.esa_spec.specs.Completion.{full}
use Rattle.esa_spec.specs.Draws.{Draw, drawn}
use Rattle.esa_spec.specs.Traces.{drain, spread}
use Rattle.esa_spec.specs.Turns.{order}
use Rattle.esa_spec.specs.Verdicts.{drained, left}
use Rattle.esa_model.specs.Recorded.{Recorded, with_accesses}
use Rattle.esa_model.specs.Passed.{AreLinesOf}
use Rattle.esa_model.specs.Walked.{HaveArrived}
use Rattle.esa_model.specs.Distributed.{IsWritten}
use Rattle.esa_model.specs.declared.distribution.Distribution.{Distribution}
use Rattle.esa_model.proofs.AttemptLemmas.{trace-written, verdict-written, exchanged-written, arrived-written}
use Rattle.esa_model.proofs.LineLemmas.{lines-few}
use Rattle.esa_model.proofs.SpreadLemmas.{with-more}
use Rattle.esa_model.proofs.attempt.run_attempt.Goals as goal
use Rattle.esa_model.proofs.attempt.run_attempt.Goals.{In-None}
use Rattle.esa_model.proofs.attempt.run_attempt.Given.{Over}

-- the turns are made, and all chunks are written
module _ (g : Over) (c : In-None g) where
  abbrev p : Sizes
  p = c.args.distribution.now.lines.p

  abbrev d : Draw
  d = drawn (g.C.Coins.target_list c.args.coins.now) (g.C.Coins.order_list c.args.coins.now) c.args.attempt

  abbrev h : List ℕ
  h = full c.args.distribution.now.lines.p d c.args.turns.now

  begun-is : c.restart.new.self.lines.p ≡ c.args.distribution.now.lines.p
  begun-is = ap (λ (s : Distribution). s.lines.p) c.restart.ensures

  plan-is : c.spread.new.self.lines.p ≡ c.args.distribution.now.lines.p
  plan-is = c.spread.ensures.sizes.plan ∙ begun-is

  written-as : IsWritten p d h c.spread.new.self
  written-as = subst (λ (q : Sizes). IsWritten q d (full q d c.args.turns.now) c.spread.new.self) begun-is c.in-None.ensures.written

  traced-as : c.spread.new.trace ≡ with_accesses c.args.trace.now (spread p d c.args.attempt h)
  traced-as = c.spread.ensures.trace ∙ ap (λ (q : Sizes). with_accesses c.args.trace.now (spread q d c.args.attempt (full q d c.args.turns.now))) begun-is

  each-as : (j : ℕ) → j < c.args.distribution.now.lines.p.b → length (g.C.Coins.target_list c.args.coins.now c.args.attempt j) ≡ size c.args.distribution.now.lines.p j
  each-as j j_in =
      g.met.C.Coins.target_for_each c.args.coins.now c.args.attempt j
      (omega (arith, c.requires.attempt, ap (λ (q : Sizes). q.attempts) c.requires.plan)) (omega (arith, ap (λ (q : Sizes). q.b) c.requires.plan))
      ∙ ap (λ (q : Sizes). size q j) c.requires.plan

  lines-as : AreLinesOf c.spread.new.self.lines.p d (order p.b h) c.spread.new.self.lines
  lines-as = subst (λ (q : Sizes). AreLinesOf q d (order p.b h) c.spread.new.self.lines) (sym plan-is) written-as.stands.lines

  whole-as : length (order p.b h) ≡ c.spread.new.self.lines.p.b
  whole-as = exchanged-written p d h c.args.attempt c.spread.new.self written-as ∙ ap (λ (q : Sizes). q.b) (sym plan-is)

  arrived-as : HaveArrived c.spread.new.self.lines.p d c.spread.new.self.lines.arrived
  arrived-as = subst (λ (q : Sizes). HaveArrived q d c.spread.new.self.lines.arrived) (sym plan-is) (arrived-written p d h c.args.attempt c.spread.new.self written-as each-as)

pub finish-requires-clause-few : goal.finish-requires-clause-few
finish-requires-clause-few g c =
    let at = (goal.at.finish-requires-clause-few g c).In-None in
    lines-few (p g at) (d g at) c.requires.sizes.planned (h g at) c.spread.new.self.lines (written-as g at).stands.lines

pub finish-requires-clause-room : goal.finish-requires-clause-room
finish-requires-clause-room g c =
    let at = (goal.at.finish-requires-clause-room g c).In-None in
    let made = spread (p g at) (d g at) c.args.attempt (h g at) in
    let long = ap (λ (r : Recorded). length r.accesses) (traced-as g at) ∙ length-append c.args.trace.now.accesses made in
    let room = ap (λ (r : Recorded). r.room) (traced-as g at) in
    omega (
      arith,
      long,
      room,
      spread-le (p g at) (d g at) c.args.attempt (h g at),
      c.requires.room,
      ap (λ (q : Sizes). q.b + (q.b * (q.b + 1) + q.b)) (plan-is g at),
    )

pub returns-in-None-clause-verdict : goal.returns-in-None-clause-verdict
returns-in-None-clause-verdict g c =
    let at = (goal.at.returns-in-None-clause-verdict g c).In-None in
    c.finish.ensures.verdict (d g at) (order (p g at).b (h g at)) (lines-as g at) (whole-as g at) (arrived-as g at)
    ∙ ap (λ (q : Sizes). drained q (d g at) (left q (d g at) (order (p g at).b (h g at)))) (plan-is g at)
    ∙ sym (verdict-written (p g at) (d g at) (h g at) c.args.attempt c.spread.new.self (written-as g at))

pub returns-in-None-clause-trace : goal.returns-in-None-clause-trace
returns-in-None-clause-trace g c =
    let at = (goal.at.returns-in-None-clause-trace g c).In-None in
    let made = spread (p g at) (d g at) c.args.attempt (h g at) in
    let more = λ (q : Sizes). drain q (d g at) c.args.attempt (left q (d g at) (order (p g at).b (h g at))) in
    c.finish.ensures.trace (d g at) (order (p g at).b (h g at)) (lines-as g at) (whole-as g at) (arrived-as g at)
    ∙ ap (λ (q : Sizes). with_accesses c.spread.new.trace (more q)) (plan-is g at)
    ∙ ap (λ (r : Recorded). with_accesses r (more (p g at))) (traced-as g at)
    ∙ with-more c.args.trace.now made (more (p g at))
    ∙ ap (with_accesses c.args.trace.now) (sym (trace-written (p g at) (d g at) (h g at) c.args.attempt c.spread.new.self (written-as g at)))
