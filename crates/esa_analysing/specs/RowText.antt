-- What is printed of a row of a database, and of the envelopes that gave no value.
use Rattle.std.specs.Prelude.{ℕ, ◌+◌, ◌-◌, ◌/◌, ◌%◌, ◌==◌, ◌&&◌, nat_lt, nat_le, if◌then◌else◌, List, [], ◌∷◌, ◌++◌, length, replicate, flat_map, codes}
use Rattle.esa_bytes.specs.Decimal.{decimal_of}

-- a digit from `0` to `9` or from `a` to `f`
abbrev pub hex_digit : ℕ → ℕ
hex_digit n = if nat_lt n 10 then 48 + n else 87 + n

-- a backslash is doubled, a byte from 0x20 to 0x7e stands as it is, and any other has `\x` and two digits
abbrev pub shown : ℕ → List ℕ
shown byte =
    if byte == 92 then 92 ∷ 92 ∷ []
    else if nat_le 32 byte && nat_le byte 126 then byte ∷ []
    else 92 ∷ 120 ∷ hex_digit (byte / 16) ∷ hex_digit (byte % 16) ∷ []

-- a number, right in ten places
abbrev pub placed : ℕ → List ℕ
placed number = replicate (10 - length (decimal_of number)) 32 ++ decimal_of number

-- the count, a space and the value
abbrev pub row_text : List ℕ × ℕ → List ℕ
row_text row = placed row.1 ++ 32 ∷ [] ++ flat_map shown row.0

abbrev pub unopened_text : ℕ → List ℕ
unopened_text unopened = codes "unopened " ++ decimal_of unopened
