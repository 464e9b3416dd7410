-- The laws of coins of either kind.
use Rattle.std.specs.Prelude.{◌≡◌, ℕ, ◌+◌, ◌*◌, ◌<◌, length, All, IsPermutation}
use Rattle.esa_params.specs.Sizes.{size, below}
use Rattle.esa_coins.specs.SeededCoins.{seeds_of}
use Rattle.esa_coins.specs.SeededLaws as seeded
use Rattle.esa_coins.specs.TableCoins.{tables_of}
use Rattle.esa_coins.specs.TableLaws as table
use Rattle.esa_coins.specs.AnyCoins.{any_plan, any_targets, any_order}
use Rattle.esa_coins.specs.declared.any.AnyCoins.{AnyCoins}
use Rattle.esa_coins.specs.declared.any.AnyCoins.TheVariants.{Seeded, Table}

pub target_for_each : (coins : AnyCoins) (attempt bucket : ℕ) → attempt < (any_plan coins).attempts → bucket < (any_plan coins).b
    → length (any_targets coins attempt bucket) ≡ size (any_plan coins) bucket
target_for_each (Seeded coins) attempt bucket planned inside = seeded.target_for_each (seeds_of coins) attempt bucket
target_for_each (Table coins) attempt bucket planned inside = table.target_for_each coins.plan (tables_of coins) coins.drawn attempt bucket planned

pub targets_below : (coins : AnyCoins) (attempt bucket : ℕ) → attempt < (any_plan coins).attempts → bucket < (any_plan coins).b
    → All (λ target. target < (any_plan coins).b) (any_targets coins attempt bucket)
targets_below (Seeded coins) attempt bucket planned inside = seeded.targets_below (seeds_of coins) coins.planned attempt bucket
targets_below (Table coins) attempt bucket planned inside = table.targets_below coins.plan (tables_of coins) coins.drawn attempt bucket planned

pub orders_permute : (coins : AnyCoins) (attempt target : ℕ) → attempt < (any_plan coins).attempts → target < (any_plan coins).b
    → IsPermutation (below ((any_plan coins).b * (any_plan coins).c + (any_plan coins).k)) (any_order coins attempt target)
orders_permute (Seeded coins) attempt target planned inside = seeded.orders_permute (seeds_of coins) coins.planned attempt target
orders_permute (Table coins) attempt target planned inside = table.orders_permute coins.plan (tables_of coins) coins.drawn attempt target planned inside
