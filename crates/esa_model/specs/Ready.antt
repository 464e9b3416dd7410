-- A predictor that can run.
use Rattle.std.specs.Prelude.{◌≡◌}
use Rattle.esa_params.specs.Slots.{greatest_trace}
use Rattle.esa_model.specs.Distributed.{IsOf}
use Rattle.esa_model.specs.Forecast.{Foretold}
use Rattle.esa_model.specs.declared.distribution.Distribution.{Distribution}

-- a distribution of a plan, and room for all that a shuffle of the plan can do
pub record IsReady (distribution : Distribution) (forecast : Foretold) : Type 0 where
  pub sizes : IsOf distribution.lines.p distribution
  pub accesses : forecast.most_accesses ≡ greatest_trace distribution.lines.p
  pub verdicts : forecast.most_verdicts ≡ distribution.lines.p.attempts
