-- The field of 256 elements: polynomials over two elements of degree below 8, modulo x^8 + x^4 + x^3 + x + 1. A
-- number stands for the polynomial whose coefficients are its bits, and the sum of two is their `bit_xor`.
use Rattle.std.specs.Prelude.{ℕ, zero, suc, ◌+◌, ◌*◌, ◌/◌, ◌%◌, ◌^◌}
use Rattle.std.specs.Int.RustNames.{bit_xor}

-- the coefficient of x to a power
abbrev pub coefficient : ℕ → ℕ → ℕ
coefficient p power = p / 2 ^ power % 2

-- the first factor's terms below x to a power, times the second factor
abbrev pub product : ℕ → ℕ → ℕ → ℕ
product zero p q = 0
product (suc power) p q = bit_xor (product power p q) (coefficient p power * (q * 2 ^ power))

-- the remainder of a polynomial of degree below 8 and so many more, by long division: 283 is the modulus
abbrev pub remainder : ℕ → ℕ → ℕ
remainder zero p = p
remainder (suc more) p = remainder more (bit_xor p (coefficient p (8 + more) * (283 * 2 ^ more)))

-- the product of two elements; of a larger number the low eight bits count, so the laws hold of all numbers
unfoldable pub times : ℕ → ℕ → ℕ
times a b = remainder 7 (product 8 (a % 256) (b % 256))

unfoldable pub power : ℕ → ℕ → ℕ
power a zero = 1
power a (suc n) = times a (power a n)

-- the element whose product with this one is 1, for each but 0
abbrev pub inverse : ℕ → ℕ
inverse a = power a 254
