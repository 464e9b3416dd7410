use Rattle.std.proofs.Common.{◌≡◌, ◌-◌, ◌<◌, ◌≤◌, ℕ, length, get_or, true}
use Rattle.std.specs.Prelude.{bytes_eq}
use Rattle.esa_recovery.specs.declared.members.Member.{Member}
use Rattle.esa_recovery.proofs.members.run_length.Given as goal

abbrev pub invariant-loop-length : goal.invariant-loop-length
invariant-loop-length l = record {
  some : 0 < l.length;
  inside : l.length ≤ length l.found;
  same : (k : ℕ) (d : Member) → k < l.length → bytes_eq (get_or l.found k d).group (get_or l.found 0 d).group ≡ true;
}

abbrev pub decreases-loop-length : goal.decreases-loop-length
decreases-loop-length l = length l.found - l.length
