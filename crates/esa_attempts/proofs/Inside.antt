-- Records of one size lie inside all of them.
use Rattle.std.proofs.Common.{◌≡◌, ℕ, ◌+◌, ◌*◌, ◌≤◌, arith}
use Rattle.std.proofs.Math.Nat.{mul-le-mul_right}

pub part_inside : (first n size count out all : ℕ) → out ≡ n * size → first + n ≤ count → all ≡ count * size → first * size + out ≤ all
part_inside first n size count out all part within whole =
    let most = mul-le-mul_right {m = first + n} {n = count} size within in
    omega (arith, part, most, whole)
