-- Newton's interpolation: the coefficients of a polynomial by its values.
use Rattle.std.specs.Prelude.{ℕ, List, [], ◌∷◌}
use Rattle.std.specs.Int.RustNames.{bit_xor}
use Rattle.esa_shares.specs.Field.{times, inverse}

-- the slopes from a point to the others
unfoldable pub slopes : (x y : ℕ) → (xs ys : List ℕ) → List ℕ
slopes x y [] ys = []
slopes x y (z ∷ xs) [] = []
slopes x y (z ∷ xs) (v ∷ ys) = times (bit_xor v y) (inverse (bit_xor z x)) ∷ slopes x y xs ys

-- the sum of the first coefficient, and the polynomial of the others times (z + x)
unfoldable pub expanded : ℕ → List ℕ → List ℕ
expanded x [] = []
expanded x (y ∷ []) = y ∷ []
expanded x (y ∷ c ∷ more) = bit_xor y (times c x) ∷ expanded x (c ∷ more)

-- a polynomial that has the values ys at xs
unfoldable pub interpolated : (xs ys : List ℕ) → List ℕ
interpolated [] ys = []
interpolated (x ∷ xs) [] = []
interpolated (x ∷ xs) (y ∷ ys) = expanded x (y ∷ interpolated xs (slopes x y xs ys))
