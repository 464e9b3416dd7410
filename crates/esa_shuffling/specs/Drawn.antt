-- What coins draw.
use Rattle.std.specs.Prelude.{ℕ}
use Rattle.esa_spec.specs.Draws.{Draw, drawn}
use Rattle.esa_coins.specs.AnyCoins.{any_targets, any_order}
use Rattle.esa_coins.specs.declared.any.AnyCoins.{AnyCoins}

-- in each attempt
abbrev pub draws_of : AnyCoins → ℕ → Draw
draws_of coins = drawn (any_targets coins) (any_order coins)
