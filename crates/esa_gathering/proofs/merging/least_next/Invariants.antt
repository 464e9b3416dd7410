use Rattle.std.proofs.Common.{◌≡◌, ℕ, ◌<◌, ◌≤◌, length, get_or, IfSome, None}
use Rattle.esa_gathering.specs.declared.merging.TextBatch.{TextBatch}
use Rattle.esa_gathering.specs.Merging.{HasNextAt}
use Rattle.esa_gathering.proofs.merging.least_next.Given as goal

abbrev pub invariant-loop-place : goal.invariant-loop-place
invariant-loop-place l = record {
  some : IfSome l.least (HasNextAt l.texts);
  none : l.least ≡ None → (before : ℕ) (d : TextBatch) → before < l.place → length (get_or l.texts before d).batch.list ≤ (get_or l.texts before d).merged;
}
