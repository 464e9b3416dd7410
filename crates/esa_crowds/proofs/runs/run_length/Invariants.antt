use Rattle.std.proofs.Common.{◌≡◌, ◌-◌, ◌<◌, ◌≤◌, ℕ, length}
use Rattle.std.specs.Prelude.{slice_index}
use Rattle.esa_crowds.specs.Rows.{row_at}
use Rattle.esa_crowds.proofs.runs.run_length.Given as goal

abbrev pub invariant-loop-equal : goal.invariant-loop-equal
invariant-loop-equal l = record {
  some : 0 < l.equal;
  inside : l.equal ≤ length l.order;
  one_crowd : (k : ℕ) → k < l.equal → (row_at l.rows (slice_index l.order k)).crowd ≡ (row_at l.rows (slice_index l.order 0)).crowd;
}

abbrev pub decreases-loop-equal : goal.decreases-loop-equal
decreases-loop-equal l = length l.order - l.equal
