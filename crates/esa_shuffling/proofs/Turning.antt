-- How many lists of turns are made.
use Rattle.std.proofs.Common.{ℕ, ◌≤◌, List, length, arith}
use Rattle.std.proofs.lemmas.List.{length-map}
use Rattle.std.proofs.lemmas.List.FromFn.{length-range_with_len}
use Rattle.esa_params.specs.Sizes.{Sizes, below}
use Rattle.esa_spec.specs.Draws.{Draw}
use Rattle.esa_model.specs.Forecast.{made, made_in}

-- turns are made for each planned attempt
pub made_few : (p : Sizes) (ds : ℕ → Draw) (turns : List (List ℕ)) → length (made p ds turns) ≤ p.attempts
made_few p ds turns = omega (arith, length-map (below p.attempts) (made_in p ds turns), length-range_with_len 0 p.attempts)
