use Rattle.std.proofs.Common.{◌≡◌, ℕ, ◌<◌, ◌≤◌, get_or}
use Rattle.std.specs.Int.RustNames.{bit_xor}
use Rattle.esa_shares.specs.Field.{times}
use Rattle.esa_shares.proofs.polynomial.scale_and_add.Given as goal

abbrev pub invariant-loop-y : goal.invariant-loop-y
invariant-loop-y l = record {
  done : (z : ℕ) → z < l.y → get_or l.out z 0 ≡ bit_xor (get_or l.row z 0) (times l.x (get_or l.initial.out z 0));
  rest : (z : ℕ) → l.y ≤ z → get_or l.out z 0 ≡ get_or l.initial.out z 0;
}
