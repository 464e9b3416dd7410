use Rattle.std.proofs.Common.{◌≡◌, ◌≤◌, length}
use Rattle.std.specs.Prelude.{vec_capacity}
use Rattle.esa_intake.specs.Standing.{IsEarlyTaker, senders_of, taken_of, AreNew}
use Rattle.esa_intake.proofs.intake.Intake.make_senders.Given as goal

abbrev pub invariant-loop : goal.invariant-loop
invariant-loop l = record {
  taker : IsEarlyTaker l.self l.taker;
  made : senders_of l.taker ≡ l.counter;
  none : taken_of l.taker ≡ taken_of l.fn.taker;
  new : AreNew l.self l.counter l.senders.items;
  long : length l.senders.items ≡ l.counter;
  room : l.number ≤ vec_capacity l.senders;
}
