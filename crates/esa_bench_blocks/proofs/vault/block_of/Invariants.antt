use Rattle.std.proofs.Common.{◌≡◌, length}
use Rattle.esa_bench_blocks.proofs.vault.block_of.Given as goal

-- the text keeps its length
abbrev pub invariant-loop-place : goal.invariant-loop-place
invariant-loop-place l = length l.text.items ≡ length l.initial.text.items
