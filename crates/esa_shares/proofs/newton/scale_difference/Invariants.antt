use Rattle.std.proofs.Common.{◌≡◌, ℕ, ◌<◌, ◌≤◌, get_or}
use Rattle.std.specs.Int.RustNames.{bit_xor}
use Rattle.esa_shares.specs.Field.{times}
use Rattle.esa_shares.proofs.newton.scale_difference.Given as goal

abbrev pub invariant-loop-y : goal.invariant-loop-y
invariant-loop-y l = record {
  done : (z : ℕ) → z < l.y → get_or l.row z 0 ≡ times (bit_xor (get_or l.initial.row z 0) (get_or l.first z 0)) l.scale;
  rest : (z : ℕ) → l.y ≤ z → get_or l.row z 0 ≡ get_or l.initial.row z 0;
}
