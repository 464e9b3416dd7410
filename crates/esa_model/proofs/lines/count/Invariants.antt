use Rattle.std.proofs.Common.{◌≡◌, ℕ, ◌+◌, ◌<◌, length, take}
use Rattle.std.specs.Prelude.{slice_index}
use Rattle.esa_model.specs.Passed.{occurrences}
use Rattle.esa_model.proofs.lines.count.Given as goal

abbrev pub invariant-loop-target : goal.invariant-loop-target
invariant-loop-target l = (i : ℕ) → i < length l.initial.arrived → slice_index l.arrived i ≡ slice_index l.initial.arrived i + occurrences i (take l.target-index l.targets)
