use Rattle.std.proofs.Common.{◌≡◌, ◌<◌, length}
use Rattle.std.specs.List.{All}
use Rattle.esa_bench_shuffle.proofs.stash.targets_in_turn.Given as goal

abbrev pub invariant-loop-item : goal.invariant-loop-item
invariant-loop-item l = record {
  each : length l.targets.items ≡ l.item;
  below : All (λ target. target < 32) l.targets.items;
}
