use Rattle.std.proofs.Common.{◌≡◌, ◌-◌, ◌<◌, ◌≤◌, ℕ, length, get_or, true}
use Rattle.std.specs.Prelude.{bytes_eq}
use Rattle.esa_analyser.specs.declared.repeated.Repeated.{Repeated}
use Rattle.esa_analyser.proofs.repeated.run_length.Given as goal

abbrev pub invariant-loop-equal : goal.invariant-loop-equal
invariant-loop-equal g l = record {
  some : 0 < l.equal;
  inside : l.equal ≤ length l.list;
  same : (k : ℕ) (d : Repeated g.row.P) → k < l.equal → bytes_eq (get_or l.list k d).key (get_or l.list 0 d).key ≡ true;
}

abbrev pub decreases-loop-equal : goal.decreases-loop-equal
decreases-loop-equal g l = length l.list - l.equal
