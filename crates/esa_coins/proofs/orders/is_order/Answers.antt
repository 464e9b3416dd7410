use Rattle.std.proofs.Common.{rules, ◌≡◌, ◌≢◌, length, sym, arith}
use Rattle.esa_coins.specs.Order.{is_order}
use Rattle.esa_coins.proofs.Marks.{not_as_many, order_permutes}
use Rattle.esa_coins.proofs.orders.is_order.Goals as goal

pub returns-then-numbers-places-clause-value : goal.returns-then-numbers-places-clause-value
returns-then-numbers-places-clause-value c =
    let other : length c.args.numbers.now ≢ c.args.places = omega arith in
    sym (not_as_many c.args.places c.args.numbers.now other)

pub returns-then-numbers-places-clause-permutes : goal.returns-then-numbers-places-clause-permutes
returns-then-numbers-places-clause-permutes c =
    let other : length c.args.numbers.now ≢ c.args.places = omega arith in
    order_permutes c.args.places c.args.numbers.now _ (sym (not_as_many c.args.places c.args.numbers.now other))

pub returns-clause-permutes : goal.returns-clause-permutes
returns-clause-permutes c =
    let is : c.mark_each.result ≡ is_order c.args.places c.args.numbers.now = search rules in
    order_permutes c.args.places c.args.numbers.now c.mark_each.result is
