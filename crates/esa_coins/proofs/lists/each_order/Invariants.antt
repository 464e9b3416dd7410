use Rattle.std.proofs.Common.{◌≡◌, take, map, Ok}
use Rattle.serde_json.specs.View.{view}
use Rattle.esa_coins.specs.Table.{each, order_in}
use Rattle.esa_coins.proofs.lists.each_order.Given as goal

abbrev pub invariant-loop-bucket : goal.invariant-loop-bucket
invariant-loop-bucket l = each (λ bucket value. order_in l.plan l.attempt bucket (view value)) 0 (take l.bucket l.values) ≡ Ok (map (λ order. order.items) l.orders.items)
