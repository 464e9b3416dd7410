-- What stored coins keep.
use Rattle.std.specs.Prelude.{ℕ, List}
use Rattle.esa_params.specs.Sizes.{Sizes}
use Rattle.esa_model.specs.declared.stored.StoredCoins.{StoredCoins}

-- the plan that they are for
abbrev pub plan_of : StoredCoins → Sizes
plan_of coins = coins.plan

-- their targets, by attempt and place
abbrev pub targets_of : StoredCoins → List ℕ
targets_of coins = coins.targets.items
