use Rattle.std.proofs.Common.{◌≡◌, ℕ, ◌+◌, ◌*◌, ◌<◌, ◌≤◌, ◌∷◌, ◌++◌, [], List, length, take, get_or, ap, sym, refl, ◌∙◌, subst, arith, length-append, length-take-le, false, ⊎_elim}
use Rattle.std.specs.Prelude.{option_to_list}
use Rattle.std.proofs.lemmas.Bool.{cases_lt}
use Rattle.esa_params.specs.Sizes.{Sizes}
use Rattle.esa_spec.specs.Completion.{completed, full}
use Rattle.esa_spec.specs.Draws.{Draw, drawn}
use Rattle.esa_spec.specs.Traces.{asked, spread}
use Rattle.esa_spec.specs.Verdicts.{is_finished}
use Rattle.esa_laws.proofs.FinishLaws.{length-completed}
use Rattle.esa_laws.proofs.LengthLaws.{spread-le}
use Rattle.esa_spec.specs.declared.event.Verdict.{Verdict}
use Rattle.esa_model.specs.Recorded.{Recorded, with_accesses}
use Rattle.esa_model.specs.Seats.{event_of_next}
use Rattle.esa_model.specs.Distributed.{IsOf, Stands, IsOver}
use Rattle.esa_model.proofs.LineLemmas.{lines-few}
use Rattle.esa_model.proofs.StandLemmas.{claims-le, unfinished, writes-le}
use Rattle.esa_model.proofs.SpreadLemmas.{full-written, is-written, written-at_last, traced-more, stands-more, full-over, over-more}
use Rattle.esa_model.proofs.distribution.Distribution.spread.Goals as goal
use Rattle.esa_model.proofs.distribution.Distribution.spread.Goals.{In-loop-made, After-turn}
use Rattle.esa_model.proofs.distribution.Distribution.spread.Given.{Over}

module _ (g : Over) (c : In-loop-made g) where
  all-turns : length (completed c.args.self.now.lines.p c.args.turns.now) ≡ c.most_turns-made-end.result
  all-turns =
      length-completed c.args.self.now.lines.p c.args.turns.now
      ∙ sym (c.most_turns-made-end.ensures.value ∙ ap (λ (q : Sizes). length c.args.turns.now + q.b * (q.b + 3) * q.workers) c.plan-2.ensures.value)

  inside : c.loop-made.made < length (completed c.args.self.now.lines.p c.args.turns.now)
  inside = omega (arith, all-turns, c.loop-made-test.true)

  chunks : c.chunks_of-chunks.result ≡ c.args.self.now.lines.p.b * c.args.self.now.lines.p.b
  chunks = c.chunks_of-chunks.ensures ∙ ap (λ (q : Sizes). q.b * q.b) c.plan.ensures.value

  turns-made : length (take c.loop-made.made (completed c.args.self.now.lines.p c.args.turns.now)) ≡ c.loop-made.made
  turns-made = length-take-le c.loop-made.made (completed c.args.self.now.lines.p c.args.turns.now) (omega (arith, inside))

pub returns-then-self-chunks-clause-written : goal.returns-then-self-chunks-clause-written
returns-then-self-chunks-clause-written g c =
    let at = (goal.at.returns-then-self-chunks-clause-written g c).In-loop-made in
    is-written _ _ c.args.turns.now c.loop-made.made (omega (arith, inside g at)) c.loop-made.self c.loop-made.invariant.stands c.loop-made.invariant.unfinished
    (c.if-self-chunks.true ∙ chunks g at)

pub returns-then-self-chunks-clause-trace : goal.returns-then-self-chunks-clause-trace
returns-then-self-chunks-clause-trace g c =
    let at = (goal.at.returns-then-self-chunks-clause-trace g c).In-loop-made in
    let p = c.args.self.now.lines.p in
    let d = drawn (g.C.Coins.target_list c.args.coins.now) (g.C.Coins.order_list c.args.coins.now) c.args.attempt in
    c.loop-made.invariant.traced
    ∙ ap (λ (h : List ℕ). with_accesses c.args.trace.now (spread p d c.args.attempt h))
    (sym (full-written p d c.args.turns.now c.loop-made.made (omega (arith, inside g at)) c.loop-made.self c.loop-made.invariant.stands c.loop-made.invariant.unfinished
    (c.if-self-chunks.true ∙ chunks g at)))

pub turn-requires-clause-few : goal.turn-requires-clause-few
turn-requires-clause-few g c =
    let inv = c.loop-made.invariant in
    lines-few c.args.self.now.lines.p _ inv.sizes.planned _ c.loop-made.self.lines inv.stands.lines

pub turn-requires-clause-rounds : goal.turn-requires-clause-rounds
turn-requires-clause-rounds g c =
    let at = (goal.at.turn-requires-clause-rounds g c).In-loop-made in
    omega (
      arith,
      c.loop-made.invariant.stands.rounds.begun,
      claims-le c.args.self.now.lines.p.b (take c.loop-made.made (completed c.args.self.now.lines.p c.args.turns.now)),
      turns-made g at,
      c.loop-made-test.true,
      c.most_turns-made-end.ensures.few,
    )

pub turn-requires-clause-written : goal.turn-requires-clause-written
turn-requires-clause-written g c =
    let at = (goal.at.turn-requires-clause-written g c).In-loop-made in
    omega (
      arith,
      c.loop-made.invariant.stands.written,
      writes-le c.args.self.now.lines.p.b (take c.loop-made.made (completed c.args.self.now.lines.p c.args.turns.now)),
      turns-made g at,
      c.loop-made-test.true,
      c.most_turns-made-end.ensures.few,
    )

pub turn-requires-clause-room : goal.turn-requires-clause-room
turn-requires-clause-room g c =
    let p = c.args.self.now.lines.p in
    let d = drawn (g.C.Coins.target_list c.args.coins.now) (g.C.Coins.order_list c.args.coins.now) c.args.attempt in
    let h = take c.loop-made.made (completed p c.args.turns.now) in
    let traced = c.loop-made.invariant.traced in
    let long : length c.loop-made.trace.accesses ≡ length c.args.trace.now.accesses + length (spread p d c.args.attempt h) =
    ap (λ (r : Recorded). length r.accesses) traced ∙ length-append c.args.trace.now.accesses (spread p d c.args.attempt h) in
    let room : c.loop-made.trace.room ≡ c.args.trace.now.room = ap (λ (r : Recorded). r.room) traced in
    omega (arith, long, room, spread-le p d c.args.attempt h, c.requires.room)

-- the turn that is made
module _ (g : Over) (c : After-turn g) (inside : c.loop-made.made < length (completed c.args.self.now.lines.p c.args.turns.now)) where
  abbrev p : Sizes
  p = c.args.self.now.lines.p

  abbrev d : Draw
  d = drawn (g.C.Coins.target_list c.args.coins.now) (g.C.Coins.order_list c.args.coins.now) c.args.attempt

  abbrev h : List ℕ
  h = take c.loop-made.made (completed c.args.self.now.lines.p c.args.turns.now)

  abbrev w : ℕ
  w = c.worker_at-worker.result

  plan-is : c.loop-made.self.lines.p ≡ c.args.self.now.lines.p
  plan-is = c.loop-made.invariant.sizes.plan

  worker-is : c.worker_at-worker.result ≡ get_or (completed c.args.self.now.lines.p c.args.turns.now) c.loop-made.made 0
  worker-is = c.worker_at-worker.ensures.value ∙ ap (λ (q : Sizes). get_or (completed q c.args.turns.now) c.loop-made.made 0) (c.plan-in-loop-made.ensures.value ∙ plan-is)

  worker-in : c.worker_at-worker.result < c.args.self.now.lines.p.workers
  worker-in = omega (arith, c.worker_at-worker.ensures.worker, ap (λ (q : Sizes). q.workers) (c.plan-in-loop-made.ensures.value ∙ plan-is))

  stands-as : Stands c.loop-made.self.lines.p d h c.loop-made.self
  stands-as = subst (λ (q : Sizes). Stands q d h c.loop-made.self) (sym plan-is) c.loop-made.invariant.stands

  traced-as : c.turn.new.trace ≡ with_accesses c.args.trace.now (spread p d c.args.attempt (take (c.loop-made.made + 1) (completed p c.args.turns.now)))
  traced-as =
      traced-more p d c.args.turns.now c.loop-made.made inside w worker-is c.args.attempt c.loop-made.self c.loop-made.invariant.sizes c.loop-made.invariant.stands worker-in
      c.args.trace.now c.loop-made.trace c.turn.new.trace c.loop-made.invariant.traced
      (c.turn.ensures.trace ∙ ap (λ (q : Sizes). with_accesses c.loop-made.trace (option_to_list (asked q c.args.attempt (event_of_next c.loop-made.self.rounds w)))) plan-is)

  module _ (v : Verdict) (ends : (g' : List ℕ) → Stands c.loop-made.self.lines.p d g' c.loop-made.self → IsOver c.loop-made.self.lines.p d (g' ++ w ∷ []) v) (here : is_finished p d h ≡ false) where
    over-as : IsOver p d (h ++ w ∷ []) v
    over-as = subst (λ (q : Sizes). IsOver q d (h ++ w ∷ []) v) plan-is (ends h stands-as)

    full-as : full p d c.args.turns.now ≡ take (c.loop-made.made + 1) (completed p c.args.turns.now)
    full-as = full-over p d c.args.turns.now c.loop-made.made inside w worker-is v c.loop-made.invariant.unfinished here over-as

pub returns-in-Some-clause-over : goal.returns-in-Some-clause-over
returns-in-Some-clause-over g c =
    let at = goal.at.returns-in-Some-clause-over g c in
    let room = inside g at.In-loop-made in
    let left = unfinished (p g at.After-turn room) (d g at.After-turn room) (h g at.After-turn room) c.loop-made.self c.loop-made.invariant.stands (λ all. c.if-self-chunks.false (all ∙ sym (chunks g at.In-loop-made))) in
    over-more _ _ c.args.turns.now c.loop-made.made room c.worker_at-worker.result (worker-is g at.After-turn room) c.in-Some.verdict
    (full-as g at.After-turn room c.in-Some.verdict c.in-Some.ensures.ends left)
    (over-as g at.After-turn room c.in-Some.verdict c.in-Some.ensures.ends left)

pub returns-in-Some-clause-trace : goal.returns-in-Some-clause-trace
returns-in-Some-clause-trace g c =
    let at = goal.at.returns-in-Some-clause-trace g c in
    let room = inside g at.In-loop-made in
    let left = unfinished (p g at.After-turn room) (d g at.After-turn room) (h g at.After-turn room) c.loop-made.self c.loop-made.invariant.stands (λ all. c.if-self-chunks.false (all ∙ sym (chunks g at.In-loop-made))) in
    traced-as g at.After-turn room
    ∙ ap (λ (l : List ℕ). with_accesses c.args.trace.now (spread (p g at.After-turn room) (d g at.After-turn room) c.args.attempt l))
    (sym (full-as g at.After-turn room c.in-Some.verdict c.in-Some.ensures.ends left))

pub loop-made-preserved : goal.loop-made-preserved
loop-made-preserved g c =
    let at = goal.at.loop-made-preserved g c in
    let room = inside g at.In-loop-made in
    let left = unfinished (p g at.After-turn room) (d g at.After-turn room) (h g at.After-turn room) c.loop-made.self c.loop-made.invariant.stands (λ all. c.if-self-chunks.false (all ∙ sym (chunks g at.In-loop-made))) in
    record {
      sizes = subst (λ (q : Sizes). IsOf q c.turn.new.self) (plan-is g at.After-turn room) c.in_default.ensures.sizes;
      stands =
          stands-more _ _ c.args.turns.now c.loop-made.made room c.worker_at-worker.result (worker-is g at.After-turn room) c.turn.new.self
          (subst (λ (q : Sizes). Stands q (d g at.After-turn room) (h g at.After-turn room ++ c.worker_at-worker.result ∷ []) c.turn.new.self) (plan-is g at.After-turn room)
          (c.in_default.ensures.goes_on refl (h g at.After-turn room) (stands-as g at.After-turn room)));
      unfinished = λ y y_in.
          ⊎_elim (c.loop-made.invariant.unfinished y)
          (λ (last : c.loop-made.made ≤ y).
          let is : y ≡ c.loop-made.made = omega arith in
          ap (λ (n : ℕ). is_finished (p g at.After-turn room) (d g at.After-turn room) (take n (completed (p g at.After-turn room) c.args.turns.now))) is ∙ left)
          (cases_lt y c.loop-made.made);
      traced = traced-as g at.After-turn room;
    }

pub returns-clause-written : goal.returns-clause-written
returns-clause-written g c =
    let p = c.args.self.now.lines.p in
    let d = drawn (g.C.Coins.target_list c.args.coins.now) (g.C.Coins.order_list c.args.coins.now) c.args.attempt in
    let turns = c.args.turns.now in
    let inv = c.loop-made.invariant in
    let all : length (completed p turns) ≡ c.most_turns-made-end.result =
    length-completed p turns
    ∙ sym (c.most_turns-made-end.ensures.value ∙ ap (λ (q : Sizes). length turns + q.b * (q.b + 3) * q.workers) c.plan-2.ensures.value) in
    let last : c.loop-made.made ≡ length (completed p turns) = omega (arith, all, c.loop-made-test.false, c.loop-made.auto.made-end) in
    is-written p d turns c.loop-made.made (omega (arith, last)) c.loop-made.self inv.stands inv.unfinished
    (written-at_last p d turns c.loop-made.made last inv.sizes.planned.parameters.workers_least c.requires.workers c.loop-made.self inv.stands)

pub returns-clause-trace : goal.returns-clause-trace
returns-clause-trace g c =
    let p = c.args.self.now.lines.p in
    let d = drawn (g.C.Coins.target_list c.args.coins.now) (g.C.Coins.order_list c.args.coins.now) c.args.attempt in
    let turns = c.args.turns.now in
    let inv = c.loop-made.invariant in
    let all : length (completed p turns) ≡ c.most_turns-made-end.result =
    length-completed p turns
    ∙ sym (c.most_turns-made-end.ensures.value ∙ ap (λ (q : Sizes). length turns + q.b * (q.b + 3) * q.workers) c.plan-2.ensures.value) in
    let last : c.loop-made.made ≡ length (completed p turns) = omega (arith, all, c.loop-made-test.false, c.loop-made.auto.made-end) in
    inv.traced
    ∙ ap (λ (h : List ℕ). with_accesses c.args.trace.now (spread p d c.args.attempt h))
    (sym (full-written p d turns c.loop-made.made (omega (arith, last)) c.loop-made.self inv.stands inv.unfinished
    (written-at_last p d turns c.loop-made.made last inv.sizes.planned.parameters.workers_least c.requires.workers c.loop-made.self inv.stands)))
