use Rattle.std.proofs.Common.{◌≡◌, length, ◌+◌, ◌≤◌}
use Rattle.esa_bytes.specs.Lines.{text_lines}
use Rattle.esa_bytes.proofs.line.line_count.Given as goal

abbrev pub invariant-loop-behind : goal.invariant-loop-behind
invariant-loop-behind l = record {
  few : l.count + length l.rest ≤ length l.text;
  counted : l.count + length (text_lines l.rest) ≡ length (text_lines l.text);
}

abbrev pub decreases-loop-behind : goal.decreases-loop-behind
decreases-loop-behind l = length l.rest
