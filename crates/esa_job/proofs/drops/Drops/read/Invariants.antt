use Rattle.std.proofs.Common.{◌≡◌, length}
use Rattle.esa_bytes.specs.Lines.{text_lines}
use Rattle.esa_job.proofs.DropLemmas.{SoFar}
use Rattle.esa_job.proofs.drops.Drops.read.Given as goal

abbrev pub invariant-loop-place : goal.invariant-loop-place
invariant-loop-place l = record {
  full : length l.entries ≡ 256;
  so_far : SoFar (text_lines l.bytes) l.entries l.place (text_lines l.rest);
}
