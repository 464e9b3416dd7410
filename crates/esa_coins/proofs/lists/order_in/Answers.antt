use Rattle.std.proofs.Common.{◌≤◌, ◌^◌, arith}
use Rattle.esa_coins.proofs.Marks.{small-permuted}
use Rattle.esa_coins.proofs.lists.order_in.Goals as goal

pub narrowed-requires : goal.narrowed-requires
narrowed-requires c =
    let few : c.import_places-places.result ≤ 2 ^ 32 = omega arith in
    small-permuted c.import_places-places.result c.as_slice-numbers.result.now few (c.in_ok-holds.ensures.permutes.0 c.if-not-holds.false)
