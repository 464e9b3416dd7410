use Rattle.std.proofs.Common.{◌≡◌, ◌+◌, ◌≤◌, ◌++◌, length, drop}
use Rattle.esa_batcher.specs.Finishing.{envelopes_of}
use Rattle.esa_gathering.specs.Together.{texts_of, all_lines, first_file_refused}
use Rattle.esa_gathering.proofs.together.add_texts.Given as goal

abbrev pub invariant-loop-place : goal.invariant-loop-place
invariant-loop-place l = record {
  form : l.batcher.form ≡ l.initial.batcher.form;
  room : length l.batcher.list + length (all_lines (drop l.place (texts_of l.texts))) ≤ 262144;
  refused : first_file_refused l.initial.batcher.form 1 (texts_of l.texts) ≡ first_file_refused l.initial.batcher.form (l.place + 1) (drop l.place (texts_of l.texts));
  list : l.initial.batcher.list ++ envelopes_of l.initial.batcher.form (all_lines (texts_of l.texts))
      ≡ l.batcher.list ++ envelopes_of l.initial.batcher.form (all_lines (drop l.place (texts_of l.texts)));
}
