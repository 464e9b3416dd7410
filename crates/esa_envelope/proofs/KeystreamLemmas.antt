-- Text under the keystream: in parts, byte by byte, and twice.
use Rattle.std.proofs.Common.{◌≡◌, ℕ, zero, suc, ◌+◌, ◌-◌, ◌*◌, ◌/◌, ◌%◌, ◌^◌, ◌<◌, ◌≤◌, List, [], ◌∷◌, ◌++◌, length, take, drop, get_or, bit_xor, refl, sym, ap, ◌∙◌, arith, add-zero, length-drop}
use Rattle.std.specs.Prelude.{slice_range}
use Rattle.std.specs.Int.{w32, to_le_bytes}
use Rattle.std.proofs.lemmas.List.{append-nil, drop_all, ext_get_or, length-take-le, take-append-drop}
use Rattle.std.proofs.Math.Seq.{take-add}
use Rattle.std.proofs.lemmas.Slice.{take-put_mid}
use lib.Bits.{xor_assoc, xor_self, xor_zero_r}
use Rattle.rand_chacha.specs.ChaCha.{ChaCha, key_of, next_word, word_at}
use borrow.Rule.Slice.PartMut.{put_mid}
use Rattle.esa_envelope.specs.Keystream.{ciphered, stream_byte}

pub length-ciphered : (key : List ℕ) (nonce place : ℕ) (bytes : List ℕ) → length (ciphered key nonce place bytes) ≡ length bytes
length-ciphered key nonce place [] = refl
length-ciphered key nonce place (byte ∷ rest) = ap suc (length-ciphered key nonce (place + 1) rest)

pub get_or-ciphered : (key : List ℕ) (nonce place : ℕ) (bytes : List ℕ) (k : ℕ) → k < length bytes
    → get_or (ciphered key nonce place bytes) k 0 ≡ bit_xor (get_or bytes k 0) (stream_byte key nonce (place + k))
get_or-ciphered key nonce place [] k h = absurd (omega arith)
get_or-ciphered key nonce place (byte ∷ rest) zero h = rw add-zero
get_or-ciphered key nonce place (byte ∷ rest) (suc k) h =
    let e : place + suc k ≡ place + 1 + k = omega arith in
    rw e (get_or-ciphered key nonce (place + 1) rest k (omega arith))

-- two parts, one after the other
pub ciphered-append : (key : List ℕ) (nonce place : ℕ) (xs ys : List ℕ)
    → ciphered key nonce place (xs ++ ys) ≡ ciphered key nonce place xs ++ ciphered key nonce (place + length xs) ys
ciphered-append key nonce place [] ys = rw add-zero
ciphered-append key nonce place (byte ∷ rest) ys =
    let e : place + 1 + length rest ≡ place + suc (length rest) = omega arith in
    ap (λ more. bit_xor byte (stream_byte key nonce place) ∷ more)
    (rw e at (ciphered-append key nonce (place + 1) rest ys))

-- a byte of a word
pub stream_byte-word : (key : List ℕ) (nonce word k : ℕ) → k < 4
    → stream_byte key nonce (4 * word + k) ≡ get_or (to_le_bytes w32 (word_at 10 (key_of key) nonce word)) k 0
unfolding stream_byte
stream_byte-word key nonce word k h =
    let quotient : (4 * word + k) / 4 ≡ word = omega arith in
    let rest : (4 * word + k) % 4 ≡ k = omega arith in
    rw (quotient, rest)

-- what bytes are under a word of the keystream
pub ciphered-word : (key : List ℕ) (nonce word : ℕ) (from into : List ℕ) → length into ≡ length from → length from ≤ 4
    → ((k : ℕ) → k < length into → get_or into k 0 ≡ bit_xor (get_or from k 0) (get_or (to_le_bytes w32 (word_at 10 (key_of key) nonce word)) k 0))
    → into ≡ ciphered key nonce (4 * word) from
ciphered-word key nonce word from into same small each =
    ext_get_or 0 into (ciphered key nonce (4 * word) from) (same ∙ sym (length-ciphered key nonce (4 * word) from))
    (λ k h.
    let inside : k < length from = omega arith in
    each k h ∙ ap (λ b. bit_xor (get_or from k 0) b) (sym (stream_byte-word key nonce word k (omega arith)))
    ∙ sym (get_or-ciphered key nonce (4 * word) from k inside))

-- a part of n bytes that was written behind the bytes before it
pub ciphered-more : (key : List ℕ) (nonce place : ℕ) (from into part : List ℕ) (at n : ℕ) → at + n ≤ length from
    → length into ≡ length from → length part ≡ n
    → take at into ≡ ciphered key nonce place (take at from)
    → part ≡ ciphered key nonce (place + at) (take n (drop at from))
    → take (at + n) (put_mid at n into part) ≡ ciphered key nonce place (take (at + n) from)
ciphered-more key nonce place from into part at n fits same size before here =
    let front = length-take-le at from (omega arith) in
    let written = take-put_mid at n into part (at + n) (omega arith) (omega arith) in
    let parts : ciphered key nonce place (take at from ++ take n (drop at from))
    ≡ ciphered key nonce place (take at from) ++ ciphered key nonce (place + at) (take n (drop at from)) =
    ciphered-append key nonce place (take at from) (take n (drop at from))
    ∙ ap (λ size. ciphered key nonce place (take at from) ++ ciphered key nonce (place + size) (take n (drop at from))) front in
    rw (written, before, here, take-add at n from) (sym parts)

-- the word at a place was written behind the words before it
pub ciphered-more_word : (key : List ℕ) (nonce word : ℕ) (from into part : List ℕ) → 4 * word + 4 ≤ length from
    → length into ≡ length from → length part ≡ 4
    → take (4 * word) into ≡ ciphered key nonce 0 (take (4 * word) from)
    → part ≡ ciphered key nonce (4 * word) (slice_range from (4 * word) (4 * word + 4))
    → take (4 * (word + 1)) (put_mid (4 * word) (4 * word + 4 - 4 * word) into part) ≡ ciphered key nonce 0 (take (4 * (word + 1)) from)
ciphered-more_word key nonce word from into part fits same size before here =
    let n : 4 * word + 4 - 4 * word ≡ 4 = omega arith in
    let next : 4 * (word + 1) ≡ 4 * word + 4 = omega arith in
    let place : 4 * word ≡ 0 + 4 * word = omega arith in
    rw (next, n) (ciphered-more key nonce 0 from into part (4 * word) 4 fits same size before
    (rw n at here ∙ ap (λ at. ciphered key nonce at (take 4 (drop (4 * word) from))) place))

-- what was written from a place on, up to the end
pub put_mid-last : (at : ℕ) (into part : List ℕ) → put_mid at (length into - at) into part ≡ take at into ++ part
put_mid-last at into part =
    ap (λ rest. take at into ++ (part ++ rest)) (drop_all (length into - at) (drop at into) (omega (arith, length-drop at into)))
    ∙ ap (λ rest. take at into ++ rest) (append-nil part)

-- under the keystream twice, a byte is as it was
pub ciphered-ciphered : (key : List ℕ) (nonce place : ℕ) (bytes : List ℕ)
    → ciphered key nonce place (ciphered key nonce place bytes) ≡ bytes
ciphered-ciphered key nonce place [] = refl
ciphered-ciphered key nonce place (byte ∷ rest) =
    let mask = stream_byte key nonce place in
    let twice : bit_xor (bit_xor byte mask) mask ≡ byte = rw (xor_assoc byte mask mask, xor_self mask, xor_zero_r byte) in
    rw (twice, ciphered-ciphered key nonce (place + 1) rest)

-- bytes in two parts
ciphered-split : (key : List ℕ) (nonce place : ℕ) (bytes : List ℕ) (at : ℕ) → at ≤ length bytes
    → ciphered key nonce place bytes ≡ ciphered key nonce place (take at bytes) ++ ciphered key nonce (place + at) (drop at bytes)
ciphered-split key nonce place bytes at inside =
    ap (λ whole. ciphered key nonce place whole) (sym (take-append-drop at bytes))
    ∙ ciphered-append key nonce place (take at bytes) (drop at bytes)
    ∙ ap (λ size. ciphered key nonce place (take at bytes) ++ ciphered key nonce (place + size) (drop at bytes)) (length-take-le at bytes inside)

-- the bytes behind the last whole word were written
pub ciphered-last : (key : List ℕ) (nonce word : ℕ) (from into part : List ℕ) → 4 * word ≤ length from
    → take (4 * word) into ≡ ciphered key nonce 0 (take (4 * word) from)
    → part ≡ ciphered key nonce (4 * word) (drop (4 * word) from)
    → put_mid (4 * word) (length into - 4 * word) into part ≡ ciphered key nonce 0 from
ciphered-last key nonce word from into part fits before here =
    let place : 4 * word ≡ 0 + 4 * word = omega arith in
    put_mid-last (4 * word) into part
    ∙ ap (λ front. front ++ part) before
    ∙ ap (λ rest. ciphered key nonce 0 (take (4 * word) from) ++ rest) (here ∙ ap (λ at. ciphered key nonce at (drop (4 * word) from)) place)
    ∙ sym (ciphered-split key nonce 0 from (4 * word) fits)

-- one word of the generator, and the generator after it
pub next_word-at : (key : List ℕ) (nonce word value : ℕ) (words after : ChaCha) → word + 1 < 2 ^ 68
    → words ≡ record { key = key_of key; stream = nonce; word_pos = word }
    → (value, after) ≡ next_word 10 words
    → (value ≡ word_at 10 (key_of key) nonce word) × (after ≡ record { key = key_of key; stream = nonce; word_pos = word + 1 })
next_word-at key nonce word value words after small place h =
    let step = rw place at h in
    let pos : (word + 1) % 2 ^ 68 ≡ word + 1 = omega arith in
    (ap (λ (p : ℕ × ChaCha). p.0) step, ap (λ (p : ℕ × ChaCha). p.1) step ∙ ap (λ at. record { key = key_of key; stream = nonce; word_pos = at }) pos)
