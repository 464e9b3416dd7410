use Rattle.std.proofs.Common.{◌≡◌, ℕ, ◌-◌, ◌*◌, ◌/◌, ◌<◌, ◌≤◌, length, drop, get_or}
use Rattle.esa_shares.specs.Polynomial.{value, column}
use Rattle.esa_shares.proofs.polynomial.evaluate.Given as goal

abbrev pub invariant-loop-left : goal.invariant-loop-left
invariant-loop-left l = record {
  within : l.left ≤ length l.coefs / length l.secret;
  done : (y : ℕ) → y < length l.secret
      → get_or l.out y 0 ≡ value (column (length l.secret) y (length l.coefs / length l.secret - l.left) (drop (l.left * length l.secret) l.coefs)) l.x;
}

abbrev pub decreases-loop-left : goal.decreases-loop-left
decreases-loop-left l = l.left
