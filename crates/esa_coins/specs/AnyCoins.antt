-- What contracts see in coins of either kind.
use Rattle.std.specs.Prelude.{ℕ, List}
use Rattle.esa_params.specs.Sizes.{Sizes}
use Rattle.esa_coins.specs.Seeded.{seeded_targets, seeded_order}
use Rattle.esa_coins.specs.SeededCoins.{seeds_of}
use Rattle.esa_coins.specs.Table.{targets_at, order_at}
use Rattle.esa_coins.specs.TableCoins.{tables_of}
use Rattle.esa_coins.specs.declared.any.AnyCoins.{AnyCoins}
use Rattle.esa_coins.specs.declared.any.AnyCoins.TheVariants.{Seeded, Table}

-- the plan that they are for
abbrev pub any_plan : AnyCoins → Sizes
any_plan (Seeded coins) = coins.plan
any_plan (Table coins) = coins.plan

-- the targets of a bucket
abbrev pub any_targets : AnyCoins → ℕ → ℕ → List ℕ
any_targets (Seeded coins) = seeded_targets (seeds_of coins)
any_targets (Table coins) = targets_at coins.plan (tables_of coins)

-- the order of a target
abbrev pub any_order : AnyCoins → ℕ → ℕ → List ℕ
any_order (Seeded coins) = seeded_order (seeds_of coins)
any_order (Table coins) = order_at (tables_of coins)
