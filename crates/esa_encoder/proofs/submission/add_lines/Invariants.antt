use Rattle.std.proofs.Common.{◌≡◌, length, ◌+◌, ◌≤◌, ◌++◌}
use Rattle.esa_bytes.specs.Lines.{text_lines}
use Rattle.esa_encoder.specs.Encoded.{submissions, first_refused}
use Rattle.esa_encoder.proofs.submission.add_lines.Given as goal

abbrev pub invariant-loop-line : goal.invariant-loop-line
invariant-loop-line g l = record {
  few : l.number + length l.rest ≤ length l.reports;
  refusals : first_refused (g.H.Shaper.shape l.shaper) l.form l.base 1 (text_lines l.reports) ≡ first_refused (g.H.Shaper.shape l.shaper) l.form l.base (l.number + 1) (text_lines l.rest);
  written : l.initial.out.items ++ submissions (g.H.Shaper.shape l.shaper) l.form l.outer l.inner l.base 1 (text_lines l.reports)
      ≡ l.out.items ++ submissions (g.H.Shaper.shape l.shaper) l.form l.outer l.inner l.base (l.number + 1) (text_lines l.rest);
}

abbrev pub decreases-loop-line : goal.decreases-loop-line
decreases-loop-line g l = length l.rest
