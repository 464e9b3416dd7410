use Rattle.std.proofs.Common.{◌≡◌, ◌+◌}
use Rattle.esa_turnstile.specs.Passes.{IsPassOf, IsOutside, number_of, added_of, left_of}
use Rattle.esa_turnstile.proofs.rounds.go_rounds.Given as goal

abbrev pub invariant-loop-turn : goal.invariant-loop-turn
invariant-loop-turn g l = record {
  pass : IsPassOf l.turnstile l.pass × IsOutside l.pass × (number_of l.pass ≡ number_of l.initial.pass);
  added : added_of l.pass ≡ added_of l.initial.pass + l.turn;
  left : left_of l.pass + l.turn ≡ left_of l.initial.pass;
}
