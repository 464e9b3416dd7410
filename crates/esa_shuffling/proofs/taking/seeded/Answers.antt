use Rattle.std.proofs.Common.{◌∙◌, ap}
use Rattle.std.specs.Prelude.{unwrap_or, replicate}
use Rattle.esa_params.specs.declared.draw.Draw.TheVariants.{Single}
use Rattle.esa_shuffling.proofs.taking.seeded.Goals as goal

pub returns : goal.returns
returns c =
    c.make.ensures
    ∙ (λ i. record {
      seed = (c.unwrap_or-seed.ensures ∙ ap (λ seed. unwrap_or seed (replicate 32 0)) c.seed.ensures) i;
      draw = (c.unwrap_or-draw.ensures ∙ ap (λ draw. unwrap_or draw Single) c.draw.ensures) i;
      plan = c.args.plan;
    })
