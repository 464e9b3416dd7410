-- The table of the digits' values, and two digits by it.
use Rattle.std.proofs.Common.{◌≡◌, ℕ, zero, suc, ◌+◌, ◌*◌, ◌<◌, ◌≤◌, Bool, true, ◌&&◌, eqb, get_or, Option, Some, None, Err, Ok, unwrap_or, inl, inr, arith, refl}
use Rattle.std.proofs.lemmas.Bool.{and_parts, cases_lt, eqb-true}
use Rattle.hex.specs.Hex.{digit_or_error, hex_digit_value, pair_value, ◌>>=◌}
use Rattle.hex.specs.declared.error.FromHexError.{FromHexError}
use Rattle.esa_bytes.specs.declared.hexadecimal.TheConstants.{VALUES}

-- the first n places of the table hold their digits' values, which computes
abbrev are_values : ℕ → Bool
are_values zero = true
are_values (suc n) = eqb (get_or VALUES n 0) (unwrap_or (hex_digit_value n) 256) && are_values n

below : (n byte : ℕ) → are_values n ≡ true → byte < n → get_or VALUES byte 0 ≡ unwrap_or (hex_digit_value byte) 256
below zero byte values inside = absurd (omega arith)
below (suc n) byte values inside =
    let parts = and_parts (eqb (get_or VALUES n 0) (unwrap_or (hex_digit_value n) 256)) (are_values n) values in
    elim (cases_lt byte n) [
      | inl lower ↦ below n byte parts.1 lower
      | inr last ↦
          let same : byte ≡ n = omega arith in
          rw same (eqb-true (get_or VALUES n 0) (unwrap_or (hex_digit_value n) 256) parts.0)
    ]

-- what the table holds for a byte
pub value_of_byte : (byte : ℕ) → byte < 256 → get_or VALUES byte 0 ≡ unwrap_or (hex_digit_value byte) 256
value_of_byte byte inside = below 256 byte refl inside

small : (byte value : ℕ) → hex_digit_value byte ≡ Some value → value < 16
small byte value is = grind (arith)

read_by : (a b i : ℕ) (high low : Option ℕ) → unwrap_or high 256 * 16 + unwrap_or low 256 < 256
    → (digit_or_error a i high >>= (λ h. digit_or_error b (i + 1) low >>= (λ l. Ok (h * 16 + l)))) ≡ Ok (unwrap_or high 256 * 16 + unwrap_or low 256)
read_by a b i (Some h) (Some l) fits = refl
read_by a b i (Some h) None fits = absurd (omega arith)
read_by a b i None low fits = absurd (omega arith)

-- two digits whose values make less than 256 write that byte
pub pair_read : (a b i : ℕ) → unwrap_or (hex_digit_value a) 256 * 16 + unwrap_or (hex_digit_value b) 256 < 256
    → pair_value a b i ≡ Ok (unwrap_or (hex_digit_value a) 256 * 16 + unwrap_or (hex_digit_value b) 256)
pair_read a b i fits = read_by a b i (hex_digit_value a) (hex_digit_value b) fits

refused_by : (a b i : ℕ) (high low : Option ℕ) → ((value : ℕ) → high ≡ Some value → value < 16) → ((value : ℕ) → low ≡ Some value → value < 16)
    → 256 ≤ unwrap_or high 256 * 16 + unwrap_or low 256
    → (e : FromHexError) × ((digit_or_error a i high >>= (λ h. digit_or_error b (i + 1) low >>= (λ l. Ok (h * 16 + l)))) ≡ Err e)
refused_by a b i (Some h) (Some l) high low large = let x = high h refl in let y = low l refl in absurd (omega arith)
refused_by a b i (Some h) None high low large = (_, refl)
refused_by a b i None low_value high low large = (_, refl)

-- two bytes whose values make 256 or more aren't two digits
pub pair_refused : (a b i : ℕ) → 256 ≤ unwrap_or (hex_digit_value a) 256 * 16 + unwrap_or (hex_digit_value b) 256
    → (e : FromHexError) × (pair_value a b i ≡ Err e)
pair_refused a b i large = refused_by a b i (hex_digit_value a) (hex_digit_value b) (small a) (small b) large
