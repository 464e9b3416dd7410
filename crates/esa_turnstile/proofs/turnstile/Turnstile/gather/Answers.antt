use Rattle.std.proofs.Common.{◌≡◌, Some, length, refl, arith}
use Rattle.std.proofs.lemmas.List.Elements.{All-pop}
use Rattle.esa_turnstile.specs.Passes.{IsPassOf, IsOutside}
use Rattle.esa_turnstile.proofs.Gathering.{gathers, gathers-first, gathered-all, nothing-left}
use Rattle.esa_turnstile.proofs.turnstile.Turnstile.gather.Goals as goal

pub loop-next-init : goal.loop-next-init
loop-next-init g c = record {
  table = c.first-seat.ensures.table;
  outside = c.first-seat.ensures.outside.0;
  empty = c.first-seat.ensures.outside.1;
  passes = (All-pop (λ p. IsPassOf c.args.self.now p × IsOutside p) _ _ (Some c.in-Some.last) c.in-Some.ensures.items c.requires.passes).0;
  gathered = gathers-first _ c.first-seat.result.me.0 c.in-Some.last _ _ c.in-Some.ensures.items refl c.first-seat.ensures.both;
}

pub loop-next-preserved : goal.loop-next-preserved
loop-next-preserved g c = record {
  table = c.take_in.ensures.table;
  outside = c.take_in.ensures.outside.0;
  empty = c.take_in.ensures.outside.1;
  passes = (All-pop (λ p. IsPassOf c.args.self.now p × IsOutside p) _ _ (Some c.in-Some-pop.next) c.in-Some-pop.ensures.items c.loop-next.invariant.passes).0;
  gathered = gathers c.loop-next.seat.me.0 c.take_in.new.seat.me.0 c.in-Some-pop.next _ _ _ c.in-Some-pop.ensures.items c.take_in.ensures.both c.loop-next.invariant.gathered;
}

pub returns-clause-knows : goal.returns-clause-knows
returns-clause-knows g c =
    let none : length c.loop-next.passes.items ≡ 0 = omega (arith, c.in_default-pop.ensures.cases) in
    (gathered-all c.loop-next.seat.me.0 c.loop-next.passes.items c.args.passes.items (nothing-left _ none) c.loop-next.invariant.gathered).0
