use Rattle.std.proofs.Common.{◌≡◌, ◌+◌}
use Rattle.esa_turnstile.specs.Passes.{IsPassOf, IsOutside, left_of}
use Rattle.esa_bench_turnstile.proofs.turnstile.enter_and_work.Given as goal

abbrev pub invariant-loop-turn : goal.invariant-loop-turn
invariant-loop-turn g l = record {
  pass : IsPassOf l.turnstile l.pass × IsOutside l.pass;
  left : left_of l.pass + l.turn ≡ left_of l.initial.pass;
}
