-- What contracts see in coins that are read from a file.
use Rattle.std.specs.Prelude.{List, map}
use Rattle.esa_params.specs.Sizes.{Sizes}
use Rattle.esa_coins.specs.Attempt.{table_of}
use Rattle.esa_coins.specs.Table.{Table}
use Rattle.esa_coins.specs.declared.table.TableCoins.{TableCoins}

-- the plan that they are for
abbrev pub plan_of : TableCoins → Sizes
plan_of coins = coins.plan

-- the lists of the attempts
abbrev pub tables_of : TableCoins → List Table
tables_of coins = map table_of coins.attempts.items
