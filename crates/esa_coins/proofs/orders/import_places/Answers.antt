use Rattle.std.proofs.Common.{◌≤◌, ◌*◌, arith}
use Rattle.std.proofs.lemmas.Nat.{mul-le}
use Rattle.esa_coins.proofs.orders.import_places.Goals as goal

pub overflow_mul-result : goal.overflow_mul-result
overflow_mul-result c =
    let limits = c.b.ensures.limits.parameters in
    let b : c.b.result ≤ 256 = omega (arith, c.b.ensures.value, limits.b_greatest) in
    let c_fits : c.c.result ≤ 1024 = omega (arith, c.c.ensures.value, limits.c_greatest) in
    let product : c.b.result * c.c.result ≤ 256 * 1024 = mul-le c.b.result c.c.result 256 1024 b c_fits in
    omega arith
