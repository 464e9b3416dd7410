use Rattle.std.proofs.Common.{ap, ◌∙◌}
use Rattle.rand_core.specs.Steps.{stream_of, steps_u32}
use Rattle.rand_chacha.specs.ChaCha.{ChaCha, next_word}
use Rattle.esa_coins.specs.Seeded.{stream_at}
use Rattle.esa_coins.proofs.draws.generator.Goals as goal

pub returns : goal.returns
unfolding stream_at
returns c =
    ap (λ (g : ChaCha). stream_of (steps_u32 (next_word 10)) g)
    (c.set_stream.ensures ∙ ap (λ (g : ChaCha). record g { stream = c.args.number }) c.from_seed-generator.ensures)
