-- The keystream of ChaCha20 with a 64-bit counter and a 64-bit nonce, from block 0 on.
use Rattle.std.specs.Prelude.{ℕ, ◌+◌, ◌/◌, ◌%◌, List, [], ◌∷◌, slice_index, bit_xor}
use Rattle.std.specs.Int.{w32, to_le_bytes}
use Rattle.rand_chacha.specs.ChaCha.{key_of, word_at}

-- the byte at a place: four to a word, the lowest byte of a word first; ten double rounds make a word
unfoldable pub stream_byte : List ℕ → ℕ → ℕ → ℕ
stream_byte key nonce place =
    slice_index (to_le_bytes w32 (word_at 10 (key_of key) nonce (place / 4))) (place % 4)

-- bytes, each xor the keystream's byte at its place; the first of them stands at the place that is given
abbrev pub ciphered : List ℕ → ℕ → ℕ → List ℕ → List ℕ
ciphered key nonce place [] = []
ciphered key nonce place (byte ∷ rest) =
    bit_xor byte (stream_byte key nonce place) ∷ ciphered key nonce (place + 1) rest
