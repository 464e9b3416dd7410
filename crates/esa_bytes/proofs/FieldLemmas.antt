-- Fields of a list of bytes: the bytes that they are made of, and what was written reads back.
use Rattle.std.proofs.Common.{◌≡◌, ℕ, ◌+◌, ◌-◌, ◌^◌, ◌<◌, List, [], ◌∷◌, ◌++◌, length, drop, get_or, refl, arith, add-zero}
use Rattle.std.specs.Prelude.{slice_range}
use Rattle.std.specs.Int.{w16, w32, w64, from_be_bytes, to_be_bytes}
use Rattle.std.proofs.lemmas.List.{get_or-take, get_or-drop, take_at, drop_at}
use Rattle.std.proofs.lemmas.Nat.{from_be_bytes-to_be_bytes_2, from_be_bytes-to_be_bytes_4, from_be_bytes-to_be_bytes_8}
use Rattle.esa_bytes.specs.Field.{u16_in, u32_in, u64_in}

-- a byte of a part is a byte of the whole
pub part_at : (bytes : List ℕ) (at n i : ℕ) → i < n → get_or (slice_range bytes at (at + n)) i 0 ≡ get_or bytes (at + i) 0
part_at bytes at n i h =
    let size : at + n - at ≡ n = omega arith in
    rw (size, get_or-take n (drop at bytes) i 0 h) (get_or-drop at bytes i 0)

-- the part that stands between a front and a rest
pub slice_range-middle : (front part rest : List ℕ) (at n : ℕ) → length front ≡ at → length part ≡ n
    → slice_range (front ++ (part ++ rest)) at (at + n) ≡ part
slice_range-middle front part rest at n here size =
    let count : at + n - at ≡ n = omega arith in
    rw (count, drop_at front (part ++ rest) at here) (take_at part rest n size)

pub u16_in-at : (bytes : List ℕ) (at : ℕ)
    → u16_in bytes at ≡ from_be_bytes w16 (get_or bytes at 0 ∷ get_or bytes (at + 1) 0 ∷ [])
unfolding u16_in
u16_in-at bytes at = rw (part_at bytes at 2 0 (omega arith), part_at bytes at 2 1 (omega arith), add-zero)

pub u32_in-at : (bytes : List ℕ) (at : ℕ)
    → u32_in bytes at ≡ from_be_bytes w32
    (get_or bytes at 0 ∷ get_or bytes (at + 1) 0 ∷ get_or bytes (at + 2) 0 ∷ get_or bytes (at + 3) 0 ∷ [])
unfolding u32_in
u32_in-at bytes at =
    rw (part_at bytes at 4 0 (omega arith), part_at bytes at 4 1 (omega arith), part_at bytes at 4 2 (omega arith), part_at bytes at 4 3 (omega arith), add-zero)

pub u64_in-at : (bytes : List ℕ) (at : ℕ)
    → u64_in bytes at ≡ from_be_bytes w64
    (get_or bytes at 0 ∷ get_or bytes (at + 1) 0 ∷ get_or bytes (at + 2) 0 ∷ get_or bytes (at + 3) 0
    ∷ get_or bytes (at + 4) 0 ∷ get_or bytes (at + 5) 0 ∷ get_or bytes (at + 6) 0 ∷ get_or bytes (at + 7) 0 ∷ [])
unfolding u64_in
u64_in-at bytes at =
    rw (part_at bytes at 8 0 (omega arith), part_at bytes at 8 1 (omega arith), part_at bytes at 8 2 (omega arith), part_at bytes at 8 3 (omega arith), part_at bytes at 8 4 (omega arith), part_at bytes at 8 5 (omega arith), part_at bytes at 8 6 (omega arith), part_at bytes at 8 7 (omega arith), add-zero)

-- a number that was written somewhere reads back there
pub u16_in-written : (front rest : List ℕ) (at n : ℕ) → length front ≡ at → n < 2 ^ 16
    → u16_in (front ++ (to_be_bytes w16 n ++ rest)) at ≡ n
unfolding u16_in
u16_in-written front rest at n here fits =
    rw (slice_range-middle front (to_be_bytes w16 n) rest at 2 here refl) (from_be_bytes-to_be_bytes_2 n fits)

pub u32_in-written : (front rest : List ℕ) (at n : ℕ) → length front ≡ at → n < 2 ^ 32
    → u32_in (front ++ (to_be_bytes w32 n ++ rest)) at ≡ n
unfolding u32_in
u32_in-written front rest at n here fits =
    rw (slice_range-middle front (to_be_bytes w32 n) rest at 4 here refl) (from_be_bytes-to_be_bytes_4 n fits)

pub u64_in-written : (front rest : List ℕ) (at n : ℕ) → length front ≡ at → n < 2 ^ 64
    → u64_in (front ++ (to_be_bytes w64 n ++ rest)) at ≡ n
unfolding u64_in
u64_in-written front rest at n here fits =
    rw (slice_range-middle front (to_be_bytes w64 n) rest at 8 here refl) (from_be_bytes-to_be_bytes_8 n fits)
