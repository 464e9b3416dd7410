-- What is sent as a share of a value.
use Rattle.std.specs.Prelude.{Bool, ◌&&◌, nat_le, ℕ, ◌+◌, ◌-◌, ◌/◌, ◌%◌, ◌==◌, nat_lt, if◌then◌else◌, List, [], ◌∷◌, ◌++◌, length, take, map, flat_map, slice_index, Some, None}
use Rattle.std.specs.List.{range_with_len}
use Rattle.sha2.specs.Sha256.{sha256}
use Rattle.esa_hmac.specs.Hmac.{hmac}
use Rattle.esa_params.specs.Sizes.{below}
use Rattle.esa_encoder.specs.Report.{Shape}
use Rattle.esa_shares.specs.Polynomial.{evaluated}

-- the first 16 bytes of the SHA-256 of a value
abbrev pub mark_of : List ℕ → List ℕ
mark_of value = take 16 (sha256 value)

-- the byte 0xe5, how many shares it takes, the point, the value's mark, and the share
abbrev pub share_record : (t point : ℕ) → (mark share : List ℕ) → List ℕ
share_record t point mark share = 229 ∷ t ∷ point ∷ (mark ++ share)

-- a share record: the byte 0xe5, two to 16 shares, a point that is not 0, a mark, and at least one byte of a share
abbrev pub is_share : List ℕ → Bool
is_share value =
    nat_lt 19 (length value) && slice_index value 0 == 229 && nat_le 2 (slice_index value 1) && nat_le (slice_index value 1) 16
    && nat_lt 0 (slice_index value 2)

-- the coefficient of byte y at a power of x: a byte of an HMAC of both and the value
abbrev pub coefficient_byte : List ℕ → List ℕ → ℕ → ℕ → ℕ
coefficient_byte key value power y = slice_index (hmac key (power ∷ y / 32 ∷ value)) (y % 32)

-- the coefficients of all bytes at a power
abbrev pub piece_of : List ℕ → List ℕ → ℕ → List ℕ
piece_of key value power = map (coefficient_byte key value power) (below (length value))

-- the coefficients at the powers from 1 on, one fewer than the shares that it takes
abbrev pub coefficients : ℕ → List ℕ → List ℕ → List ℕ
coefficients t key value = flat_map (piece_of key value) (range_with_len 1 (t - 1))

-- the point of a nonce: 1 to 255
abbrev pub point_of : ℕ → ℕ
point_of nonce = 1 + nonce % 255

abbrev pub share_of : ℕ → List ℕ → List ℕ → ℕ → List ℕ
share_of t key value point = share_record t point (mark_of value) (evaluated value (coefficients t key value) point)

-- The share of a value at its nonce's point. The empty value is sent as it is, and a record holds up to 171 bytes.
abbrev pub share_shape : ℕ → List ℕ → Shape
share_shape t key value nonce =
    if nat_lt 171 (length value) then None
    else if length value == 0 then Some [] else Some (share_of t key value (point_of nonce))

-- how many shares it takes, and the key that the coefficients come from
pub record Sharing : Type 0 where
  pub t : ℕ
  pub key : List ℕ
