-- What contracts see in the lists of an attempt.
use Rattle.std.specs.Prelude.{map}
use Rattle.esa_coins.specs.Table.{Table}
use Rattle.esa_coins.specs.declared.attempt.Attempt.{Attempt}

abbrev pub table_of : Attempt → Table
table_of attempt = record { targets = attempt.targets.items; orders = map (λ order. order.items) attempt.orders.items }
