use Rattle.std.proofs.Common.{◌≡◌, ℕ, List, ◌<◌, ◌++◌, length, take, drop, get_or, ap, sym, ◌∙◌, arith, subst}
use Rattle.std.specs.Prelude.{All}
use Rattle.std.proofs.lemmas.List.{take_at}
use Rattle.esa_model.specs.Passed.{Passed, all_staying}
use Rattle.esa_model.proofs.LineLemmas.{size-le, counted-moved, left-moved}
use Rattle.esa_model.proofs.lines.Lines.exchange.Goals as goal
use Rattle.esa_model.proofs.lines.Lines.exchange.Goals.{After-deref_mut-4, After-pass}
use Rattle.esa_model.proofs.lines.Lines.exchange.Given.{Over}

module _ (g : Over) (c : After-deref_mut-4 g) where
  targets-are : c.deref.result.now ≡ c.draw-places.new.targets
  targets-are = c.deref.ensures.value ∙ take_at c.draw-places.new.targets (drop (length c.draw-places.new.targets) c.self.inside.targets.items) c.self.inside.targets.len (omega (arith, c.draw-places.auto.targets, c.deref_mut-2.ensures.len))

  arrived-are : c.deref_mut-3.result.now ≡ c.args.self.now.arrived
  arrived-are = c.deref_mut-3.ensures.value ∙ ap (λ (s : Passed). s.arrived) c.self.view_is

  gone-are : c.deref_mut-4.result.now ≡ c.args.self.now.gone
  gone-are = c.deref_mut-4.ensures.value ∙ ap (λ (s : Passed). s.gone) c.self.view_is

  arrived-each : length c.deref_mut-3.result.now ≡ c.args.self.now.p.b
  arrived-each = ap length c.deref_mut-3.ensures.value ∙ c.self.invariant.lines.arrived_each ∙ ap (λ (s : Passed). s.p.b) c.self.view_is

  gone-each : length c.deref_mut-4.result.now ≡ c.args.self.now.p.b
  gone-each = ap length c.deref_mut-4.ensures.value ∙ c.self.invariant.lines.gone_each ∙ ap (λ (s : Passed). s.p.b) c.self.view_is

pub pass-requires-clause-places : goal.pass-requires-clause-places
pass-requires-clause-places g c = omega (arith, ap length (targets-are g (goal.at.pass-requires-clause-places g c).After-deref_mut-4), c.draw-places.ensures.within)

pub pass-requires-clause-each : goal.pass-requires-clause-each
pass-requires-clause-each g c = let at = (goal.at.pass-requires-clause-each g c).After-deref_mut-4 in omega (arith, arrived-each g at, gone-each g at)

pub pass-requires-clause-below : goal.pass-requires-clause-below
pass-requires-clause-below g c =
    let at = (goal.at.pass-requires-clause-below g c).After-deref_mut-4 in
    let b : c.self.inside.plan.b ≡ length c.deref_mut-3.result.now = omega (arith, arrived-each g at, ap (λ (s : Passed). s.p.b) c.self.view_is) in
    subst (λ (l : List ℕ). All (λ target. target < length c.deref_mut-3.result.now) (take c.draw-places.result l)) (sym (targets-are g at))
    (subst (λ (n : ℕ). All (λ target. target < n) (take c.draw-places.result c.draw-places.new.targets)) b c.draw-places.ensures.below)

pub pass-requires-clause-few : goal.pass-requires-clause-few
pass-requires-clause-few g c i i_in =
    let at = (goal.at.pass-requires-clause-few g c).After-deref_mut-4 in
    let places = size-le c.self.inside.plan c.args.bucket in
    let same = ap (λ (l : List ℕ). get_or l i 0) (arrived-are g at) in
    let come = c.requires.few.come i (omega (arith, arrived-each g at)) in
    omega (arith, same, come, places, c.self.invariant.planned.n_greatest, c.draw-places.ensures.places)

pub pass-requires-clause-left : goal.pass-requires-clause-left
pass-requires-clause-left g c i i_in =
    let at = (goal.at.pass-requires-clause-left g c).After-deref_mut-4 in
    let arrived = ap (λ (l : List ℕ). get_or l i 0) (arrived-are g at) in
    let gone = ap (λ (l : List ℕ). get_or l i 0) (gone-are g at) in
    omega (arith, arrived, gone, c.requires.few.left i (omega (arith, gone-each g at)))

module _ (g : Over) (c : After-pass g) where
  arrived-after : take c.self.inside.arrived.len (c.pass.new.arrived ++ drop (length c.pass.new.arrived) c.self.inside.arrived.items) ≡ c.pass.new.arrived
  arrived-after = take_at c.pass.new.arrived (drop (length c.pass.new.arrived) c.self.inside.arrived.items) c.self.inside.arrived.len (omega (arith, c.pass.auto.arrived, c.deref_mut-3.ensures.len))

  gone-after : take c.self.inside.gone.len (c.pass.new.gone ++ drop (length c.pass.new.gone) c.self.inside.gone.items) ≡ c.pass.new.gone
  gone-after = take_at c.pass.new.gone (drop (length c.pass.new.gone) c.self.inside.gone.items) c.self.inside.gone.len (omega (arith, c.pass.auto.gone, c.deref_mut-4.ensures.len))

  targets-after : take c.self.inside.targets.len (c.draw-places.new.targets ++ drop (length c.draw-places.new.targets) c.self.inside.targets.items) ≡ c.draw-places.new.targets
  targets-after = take_at c.draw-places.new.targets (drop (length c.draw-places.new.targets) c.self.inside.targets.items) c.self.inside.targets.len (omega (arith, c.draw-places.auto.targets, c.deref_mut-2.ensures.len))

  room-after : take c.self.inside.room.len (c.draw-places.new.room ++ drop (length c.draw-places.new.room) c.self.inside.room.items) ≡ c.draw-places.new.room
  room-after = take_at c.draw-places.new.room (drop (length c.draw-places.new.room) c.self.inside.room.items) c.self.inside.room.len (omega (arith, c.draw-places.auto.room, c.deref_mut.ensures.len))

  after-arrived : length (take c.self.inside.arrived.len (c.pass.new.arrived ++ drop (length c.pass.new.arrived) c.self.inside.arrived.items)) ≡ c.self.inside.plan.b
  after-arrived = ap length arrived-after ∙ c.pass.auto.arrived ∙ ap length c.deref_mut-3.ensures.value ∙ c.self.invariant.lines.arrived_each

  after-gone : length (take c.self.inside.gone.len (c.pass.new.gone ++ drop (length c.pass.new.gone) c.self.inside.gone.items)) ≡ c.self.inside.plan.b
  after-gone = ap length gone-after ∙ c.pass.auto.gone ∙ ap length c.deref_mut-4.ensures.value ∙ c.self.invariant.lines.gone_each

pub invariant_of-self : goal.invariant_of-self
invariant_of-self g c =
    let at = (goal.at.invariant_of-self g c).After-pass in
    record {
      planned = c.self.invariant.planned;
      lines = record { arrived_each = after-arrived g at; gone_each = after-gone g at };
      place_each = ap length (targets-after g at) ∙ c.draw-places.auto.targets ∙ ap length c.deref_mut-2.ensures.value ∙ c.self.invariant.place_each;
      draws = ap length (room-after g at) ∙ c.draw-places.auto.room ∙ ap length c.deref_mut.ensures.value ∙ c.self.invariant.draws;
    }

pub returns-clause-exchanged : goal.returns-clause-exchanged
returns-clause-exchanged g c =
    let at = (goal.at.returns-clause-exchanged g c).After-pass in
    let before = (goal.at.returns-clause-exchanged g c).After-deref_mut-4 in
    record {
      plan = ap (λ (s : Passed). s.p) c.self.view_is;
      counted = counted-moved _ _ _ _ _ _ (ap (take c.draw-places.result) (targets-are g before) ∙ c.draw-places.ensures.value) (arrived-are g before) (sym (arrived-after g at)) c.pass.ensures.counted;
      left = left-moved _ _ _ _ _ _ _ _ (c.c.ensures.value ∙ ap (λ (s : Passed). s.p.c) c.self.view_is) (sym (arrived-after g at)) (gone-are g before) (sym (gone-after g at)) c.pass.ensures.left;
    }

pub returns-clause-lines : goal.returns-clause-lines
returns-clause-lines g c = let at = (goal.at.returns-clause-lines g c).After-pass in record { arrived_each = after-arrived g at; gone_each = after-gone g at }

pub returns-clause-total : goal.returns-clause-total
returns-clause-total g c =
    let at = (goal.at.returns-clause-total g c).After-pass in
    let before = (goal.at.returns-clause-total g c).After-deref_mut-4 in
    c.pass.ensures.total
    ∙ ap (λ (n : ℕ). all_staying n c.pass.new.arrived c.deref_mut-4.result.now) (c.c.ensures.value ∙ ap (λ (s : Passed). s.p.c) c.self.view_is)
    ∙ ap (λ (l : List ℕ). all_staying c.args.self.now.p.c l c.deref_mut-4.result.now) (sym (arrived-after g at))
    ∙ ap (all_staying c.args.self.now.p.c (take c.self.inside.arrived.len (c.pass.new.arrived ++ drop (length c.pass.new.arrived) c.self.inside.arrived.items))) (gone-are g before)
