use Rattle.std.proofs.Common.{◌≡◌, length}
use Rattle.esa_stash.specs.Stash.{contents}
use Rattle.esa_bench_shuffle.proofs.stash.repeat.Given as goal

abbrev pub invariant-loop-turn : goal.invariant-loop-turn
invariant-loop-turn l = record {
  queues : length (contents l.stash).queues ≡ 32;
  chunk : l.stash.c ≡ 96;
}
