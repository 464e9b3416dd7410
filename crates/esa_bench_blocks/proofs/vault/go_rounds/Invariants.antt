use Rattle.std.proofs.Common.{◌≡◌, ◌+◌, ◌*◌, ◌≤◌, Some, length}
use Rattle.esa_params.specs.Slots.{block_length, plain_length}
use Rattle.esa_bench_blocks.proofs.vault.go_rounds.Given as goal

-- the recorder is ready and has room for the rounds that are left, and the buffers keep their lengths
abbrev pub invariant-loop-attempt : goal.invariant-loop-attempt
invariant-loop-attempt g l = record {
  ready : l.recorder.plan ≡ Some l.plan;
  room : l.load.times * 2 ≤ l.recorder.room + l.attempt * 2;
  text : length l.block.text.items ≡ plain_length l.plan l.slot.region l.slot.index;
  sealed : length l.block.sealed.items ≡ block_length l.plan l.slot;
}
