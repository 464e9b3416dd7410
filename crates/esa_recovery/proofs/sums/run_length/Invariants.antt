use Rattle.std.proofs.Common.{◌≡◌, ◌-◌, ◌<◌, ◌≤◌, ℕ, length, get_or, true}
use Rattle.std.specs.Prelude.{bytes_eq}
use Rattle.esa_recovery.specs.declared.sums.Sum.{Sum}
use Rattle.esa_recovery.proofs.sums.run_length.Given as goal

abbrev pub invariant-loop-length : goal.invariant-loop-length
invariant-loop-length l = record {
  some : 0 < l.length;
  inside : l.length ≤ length l.sums;
  same : (k : ℕ) (d : Sum) → k < l.length → bytes_eq (get_or l.sums k d).value.now (get_or l.sums 0 d).value.now ≡ true;
}

abbrev pub decreases-loop-length : goal.decreases-loop-length
decreases-loop-length l = length l.sums - l.length
