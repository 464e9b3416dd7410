use Rattle.std.proofs.Common.{◌≡◌, ℕ, ◌+◌, ◌*◌, ◌<◌, ◌≤◌}
use Rattle.std.specs.Prelude.{slice_index, sum_by, min}
use Rattle.esa_params.specs.Sizes.{below}
use Rattle.esa_model.specs.Passed.{staying}
use Rattle.esa_model.proofs.lines.leave.Given as goal

abbrev pub invariant-loop-target : goal.invariant-loop-target
invariant-loop-target l = record {
  done : (i : ℕ) → i < l.target → slice_index l.gone i ≡ min (slice_index l.initial.gone i + l.c) (slice_index l.arrived i);
  others : (i : ℕ) → l.target ≤ i → slice_index l.gone i ≡ slice_index l.initial.gone i;
  total : l.total ≡ sum_by (staying l.c l.arrived l.initial.gone) (below l.target);
  small : l.total ≤ l.target * 4294967296;
}
