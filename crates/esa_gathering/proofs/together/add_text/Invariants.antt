use Rattle.std.proofs.Common.{◌≡◌, length, ◌+◌, ◌≤◌}
use Rattle.esa_bytes.specs.Lines.{text_lines}
use Rattle.esa_batcher.specs.Submitted.{joined_to, lines_in}
use Rattle.esa_gathering.proofs.together.add_text.Given as goal

abbrev pub invariant-loop-line : goal.invariant-loop-line
invariant-loop-line l = record {
  few : l.number + length l.rest ≤ length l.text;
  form : l.batcher.form ≡ l.initial.batcher.form;
  room : length l.batcher.list + length (text_lines l.rest) ≤ 262144;
  lines : joined_to l.initial.batcher.list (lines_in l.initial.batcher.form 1 (text_lines l.text))
      ≡ joined_to l.batcher.list (lines_in l.initial.batcher.form (l.number + 1) (text_lines l.rest));
}

abbrev pub decreases-loop-line : goal.decreases-loop-line
decreases-loop-line l = length l.rest
