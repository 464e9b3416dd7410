use Rattle.std.proofs.Common.{◌≡◌, length}
use Rattle.esa_stash.specs.Stash.{contents}
use Rattle.esa_stash.proofs.plain.run_both.Given as goal

abbrev pub invariant-loop-turn : goal.invariant-loop-turn
invariant-loop-turn g l = record {
  queues : length (contents l.stash).queues ≡ l.limit;
  chunk : l.stash.c ≡ l.chunk;
}
