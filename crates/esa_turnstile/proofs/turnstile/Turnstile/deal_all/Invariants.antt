use Rattle.std.proofs.Common.{◌≡◌, ℕ, ◌<◌, [], length, slice_index_or, All, vec_capacity}
use Rattle.esa_turnstile.specs.Views.{dealing}
use Rattle.esa_turnstile.specs.Passes.{tickets_of, opened_of, IsSeatOf, IsPassOf, IsNewPass}
use Rattle.esa_turnstile.specs.Marks.{marked}
use Rattle.esa_turnstile.proofs.turnstile.Turnstile.deal_all.Given as goal

abbrev pub invariant-loop-number : goal.invariant-loop-number
invariant-loop-number g l = record {
  table : IsSeatOf l.self l.seat;
  rest : l.seat.me ≡ (dealing (marked g.T.Logged.mark g.T.Logged.trail) l.self.table.shared.key l.number, []);
  room : vec_capacity l.dealt ≡ vec_capacity l.initial.dealt;
  count : length l.dealt.items ≡ l.number;
  dealt : All (λ p. IsPassOf l.self p × IsNewPass (tickets_of l.self) (g.T.Logged.mark (opened_of l.self)) p) l.dealt.items;
  numbers : (x : ℕ) (d : _) → x < l.number → (slice_index_or l.dealt.items x d).number ≡ x;
}
