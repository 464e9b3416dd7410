-- Polynomials over the field of 256 elements, by their values (Lagrange's interpolation at 0).
use Rattle.std.specs.Prelude.{ℕ, zero, suc, ◌==◌, ◌<◌, if◌then◌else◌, ◌/◌, List, [], ◌∷◌, length, drop, map, slice_index, All}
use Rattle.std.specs.Int.RustNames.{bit_xor}
use Rattle.std.specs.List.{IsDistinct}
use Rattle.std.specs.Prelude.{nat_eq}
use Rattle.esa_params.specs.Sizes.{below}
use Rattle.esa_shares.specs.Field.{times, inverse}

-- the value at x of the polynomial with these coefficients, from the constant on
abbrev pub value : List ℕ → ℕ → ℕ
value [] x = 0
value (c ∷ more) x = bit_xor c (times x (value more x))

-- Lagrange's factor of another point, for the value at 0
abbrev pub factor : ℕ → ℕ → ℕ
factor x other = if other == x then 1 else times other (inverse (bit_xor other x))

-- the product of the factors of the other points
abbrev pub weight : ℕ → List ℕ → ℕ
weight x [] = 1
weight x (point ∷ points) = times (factor x point) (weight x points)

-- the sum of values at xs, each times the weight of its point
abbrev pub combined : List ℕ → List ℕ → List ℕ → ℕ
combined points [] ys = 0
combined points (x ∷ xs) [] = 0
combined points (x ∷ xs) (y ∷ ys) = bit_xor (times y (weight x points)) (combined points xs ys)

-- the byte at a place of each of so many pieces of this size
abbrev pub column : (size place : ℕ) → ℕ → List ℕ → List ℕ
column size place zero bytes = []
column size place (suc count) bytes = slice_index bytes place ∷ column size place count (drop size bytes)

-- no two are equal, and none is 0
pub record ArePoints (points : List ℕ) : Type 0 where
  pub distinct : IsDistinct nat_eq points
  pub some : All (λ x. 0 < x) points

-- Of each byte of the secret, the value at x of the polynomial of which it is the constant; the further coefficients
-- are the bytes at its place in the pieces of `coefs`, each as long as the secret.
abbrev pub evaluated : List ℕ → List ℕ → ℕ → List ℕ
evaluated secret coefs x =
    map (λ y. value (slice_index secret y ∷ column (length secret) y (length coefs / length secret) coefs) x) (below (length secret))

-- byte by byte, the value at 0 of the polynomial of least degree through the shares, each of this size
abbrev pub recovered : ℕ → List ℕ → List ℕ → List ℕ
recovered size points shares = map (λ y. combined points points (column size y (length points) shares)) (below size)
