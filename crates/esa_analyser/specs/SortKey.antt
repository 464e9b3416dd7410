-- Reports in a spelling that sorts as their values do.
use Rattle.std.specs.Prelude.{◌≡◌, ℕ, ◌+◌, ◌-◌, ◌≤◌, List, [], ◌∷◌, ◌++◌, length, take, replicate, slice_index}

-- the value, zero bytes, and the value's length in the last two bytes
unfoldable pub sort_key : ℕ → List ℕ → List ℕ
sort_key size value = value ++ (replicate (size - 2 - length value) 0 ++ (0 ∷ length value ∷ []))

-- the value of a sort key, whose last byte has its length
abbrev pub key_value : List ℕ → List ℕ
key_value key = take (slice_index key (length key - 1)) key

-- the key is that of its value, which a report of this length can carry
pub record IsSortKey (size : ℕ) (key : List ℕ) : Type 0 where
  pub fits : length (key_value key) + 2 ≤ size
  pub spelled : key ≡ sort_key size (key_value key)

-- a run of equal keys, as a row of their value
abbrev pub row_of : List ℕ × ℕ → List ℕ × ℕ
row_of run = (key_value run.0, run.1)
