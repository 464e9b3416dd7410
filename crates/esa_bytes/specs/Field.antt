-- Numbers of two, four or eight bytes inside a list of bytes, highest byte first.
use Rattle.std.specs.Prelude.{ℕ, ◌+◌, List, ◌++◌, length, take, drop, slice_range}
use Rattle.std.specs.Int.{w16, w32, w64, from_be_bytes}

-- the number whose two bytes begin at a place
unfoldable pub u16_in : List ℕ → ℕ → ℕ
u16_in bytes at = from_be_bytes w16 (slice_range bytes at (at + 2))

-- the number whose four bytes begin at a place
unfoldable pub u32_in : List ℕ → ℕ → ℕ
u32_in bytes at = from_be_bytes w32 (slice_range bytes at (at + 4))

-- the number whose eight bytes begin at a place
unfoldable pub u64_in : List ℕ → ℕ → ℕ
u64_in bytes at = from_be_bytes w64 (slice_range bytes at (at + 8))

-- the bytes with a part in place of as many of them, from a place on
abbrev pub overwrite : List ℕ → ℕ → List ℕ → List ℕ
overwrite bytes at part = take at bytes ++ (part ++ drop (at + length part) bytes)
