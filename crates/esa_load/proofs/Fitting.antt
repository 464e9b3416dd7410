-- A bucket lies among the places, and the first bucket is the largest.
use Rattle.std.proofs.Common.{◌≡◌, ℕ, ◌+◌, ◌*◌, ◌≤◌, arith, mul-le-mul_left, mul-le-mul_right}
use Rattle.esa_laws.proofs.SizeLaws.{size-first}
use Rattle.esa_params.specs.Form.{envelope_length}
use Rattle.esa_params.specs.Sizes.{Sizes, first, share, size}

pub bucket_inside : (p : Sizes) (j : ℕ) → first p j + size p j ≤ p.n
bucket_inside p j =
    let next : (j + 1) * share p ≡ j * share p + share p = omega arith in
    omega arith

pub bucket_fits : (p : Sizes) (j : ℕ) → envelope_length p.form * size p j ≤ envelope_length p.form * size p 0
bucket_fits p j = mul-le-mul_left (envelope_length p.form) (size-first p j)

pub first-mono : (p : Sizes) (j k : ℕ) → j ≤ k → first p j ≤ first p k
first-mono p j k less = let far : j * share p ≤ k * share p = mul-le-mul_right (share p) less in omega (arith, far)
