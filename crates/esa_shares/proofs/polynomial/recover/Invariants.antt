use Rattle.std.proofs.Common.{◌≡◌, ℕ, ◌-◌, ◌*◌, ◌<◌, length, drop, get_or}
use Rattle.std.specs.Int.RustNames.{bit_xor}
use Rattle.esa_shares.specs.Polynomial.{combined, column}
use Rattle.esa_shares.proofs.polynomial.recover.Given as goal

abbrev pub invariant-loop-z : goal.invariant-loop-z
invariant-loop-z l = (y : ℕ) → y < length l.fn.out
    → bit_xor (get_or l.out y 0) (combined l.points (drop l.z l.points) (column (length l.fn.out) y (length l.points - l.z) (drop (l.z * length l.fn.out) l.shares)))
    ≡ combined l.points l.points (column (length l.fn.out) y (length l.points) l.shares)
