use Rattle.std.proofs.Common.{◌≡◌, ◌+◌, ◌-◌, ◌*◌, ◌≤◌, length}
use Rattle.esa_header.specs.Pieces.{pieces}
use Rattle.esa_batcher.specs.Rising.{fall_at}
use Rattle.esa_batcher.proofs.rising.first_fall.Given as goal

abbrev pub invariant-loop-next : goal.invariant-loop-next
invariant-loop-next l = record {
  low : 1 ≤ l.next;
  left : length l.rest ≡ l.size * (l.count - (l.next - 1));
  same : fall_at l.first (pieces l.size l.count l.bytes) ≡ fall_at (l.first + (l.next - 1)) (pieces l.size (l.count - (l.next - 1)) l.rest);
}
