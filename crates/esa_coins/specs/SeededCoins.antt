-- What contracts see in coins that are drawn from a seed.
use Rattle.esa_coins.specs.Seeded.{Seeds}
use Rattle.esa_coins.specs.declared.seeded.SeededCoins.{SeededCoins}

abbrev pub seeds_of : SeededCoins → Seeds
seeds_of coins = record { seed = coins.seed; draw = coins.draw; plan = coins.plan }
