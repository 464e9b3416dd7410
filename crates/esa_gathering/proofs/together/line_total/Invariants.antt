use Rattle.std.proofs.Common.{◌≡◌, ◌+◌, length, drop}
use Rattle.esa_gathering.specs.Together.{texts_of, all_lines}
use Rattle.esa_gathering.proofs.together.line_total.Given as goal

abbrev pub invariant-loop-place : goal.invariant-loop-place
invariant-loop-place l = l.total + length (all_lines (drop l.place (texts_of l.texts))) ≡ length (all_lines (texts_of l.texts))
