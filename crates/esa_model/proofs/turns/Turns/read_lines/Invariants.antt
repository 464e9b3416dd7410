use Rattle.std.proofs.Common.{◌≡◌, ◌≤◌, length, ◌+◌}
use Rattle.esa_bytes.specs.Lines.{text_lines}
use Rattle.esa_model.specs.Turns.{turns_of}
use Rattle.esa_model.proofs.Reading.{AreBegun, read_from}
use Rattle.esa_model.proofs.turns.Turns.read_lines.Given as goal

abbrev pub invariant-loop-line : goal.invariant-loop-line
invariant-loop-line l = record {
  counted : l.number + length l.rest ≤ length l.bytes + 1;
  workers : AreBegun l.workers l.draft;
  so_far : read_from l.workers l.attempts l.number l.draft (text_lines l.rest) ≡ turns_of l.workers l.attempts l.bytes;
}

abbrev pub decreases-loop-line : goal.decreases-loop-line
decreases-loop-line l = length l.rest
