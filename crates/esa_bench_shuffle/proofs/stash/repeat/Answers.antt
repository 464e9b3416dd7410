use Rattle.std.proofs.Common.{length, ap, ◌∙◌}
use Rattle.std.proofs.lemmas.List.FromFn.{length-map-range_with_len}
use Rattle.esa_stash.specs.Stash.{Held, contents, rest}
use Rattle.esa_bench_shuffle.proofs.stash.repeat.Goals as goal

pub loop-turn-preserved : goal.loop-turn-preserved
loop-turn-preserved c = record {
  queues =
      ap (λ (held : Held). length held.queues) c.in_ok-exchange.ensures.queues
      ∙ length-map-range_with_len (rest (contents c.loop-turn.stash) (c.args.targets.now, c.args.items.now)) 0 (length (contents c.loop-turn.stash).queues)
      ∙ c.loop-turn.invariant.queues;
  chunk = ap (λ (held : Held). held.c) c.in_ok-exchange.ensures.queues ∙ c.loop-turn.invariant.chunk;
}
