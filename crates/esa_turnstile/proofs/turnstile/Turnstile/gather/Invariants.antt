use Rattle.std.proofs.Common.{◌≡◌, [], All}
use Rattle.esa_turnstile.specs.declared.view.Stage.TheVariants.{Outside}
use Rattle.esa_turnstile.specs.Passes.{IsSeatOf, IsPassOf, IsOutside}
use Rattle.esa_turnstile.proofs.Gathering.{Gathered}
use Rattle.esa_turnstile.proofs.turnstile.Turnstile.gather.Given as goal

abbrev pub invariant-loop-next : goal.invariant-loop-next
invariant-loop-next g l = record {
  table : IsSeatOf l.self l.seat;
  outside : l.seat.me.0.stage ≡ Outside;
  empty : l.seat.me.1 ≡ [];
  passes : All (λ p. IsPassOf l.self p × IsOutside p) l.passes.items;
  gathered : Gathered l.seat.me.0 l.passes.items l.fn.passes.items;
}

abbrev pub decreases-loop-next : goal.decreases-loop-next
decreases-loop-next g l = goal.left-loop-next g l
