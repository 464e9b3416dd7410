use Rattle.std.proofs.Common.{◌≡◌, ◌+◌, ◌++◌, ◌≤◌, length}
use Rattle.std.specs.Prelude.{All}
use Rattle.std.specs.List.Sorted.{IsPermutation}
use Rattle.esa_gathering.specs.Merging.{all_left}
use Rattle.esa_gathering.proofs.merging.merge.Given as goal

abbrev pub invariant-loop-place : goal.invariant-loop-place
invariant-loop-place l = record {
  form : l.batcher.form ≡ l.initial.batcher.form;
  forms : All (λ text. text.batch.form ≡ l.initial.batcher.form) l.texts;
  room : length l.batcher.list + length (all_left l.texts) ≤ 262144;
  same : IsPermutation (l.initial.batcher.list ++ all_left l.initial.texts) (l.batcher.list ++ all_left l.texts);
}

abbrev pub decreases-loop-place : goal.decreases-loop-place
decreases-loop-place l = length (all_left l.texts)
