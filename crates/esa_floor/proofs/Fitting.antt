-- The first bucket is the largest, so that what has room for it has room for each.
use Rattle.std.proofs.Common.{ℕ, ◌*◌, ◌≤◌}
use Rattle.std.proofs.Math.Nat.{mul-le-mul_right}
use Rattle.esa_laws.proofs.SizeLaws.{size-first}
use Rattle.esa_params.specs.Sizes.{Sizes, size}

pub size_fits : (p : Sizes) (j : ℕ) → size p j ≤ size p 0
size_fits p j = size-first p j

pub bytes_fit : (p : Sizes) (j n : ℕ) → size p j * n ≤ size p 0 * n
bytes_fit p j n = mul-le-mul_right n (size-first p j)

pub ruleset first_is_greatest = (size_fits, bytes_fit)
