-- HMAC (RFC 2104) over SHA-256, whose blocks have 64 bytes.
use Rattle.std.specs.Prelude.{ℕ, ◌-◌, nat_lt, if◌then◌else◌, List, ◌++◌, length, map, replicate, bit_xor}
use Rattle.sha2.specs.Sha256.{sha256}

-- bytes followed by zero bytes up to a block
abbrev pub padded : List ℕ → List ℕ
padded bytes = bytes ++ replicate (64 - length bytes) 0

-- the key as one block: a key that is longer than a block is hashed first
abbrev pub key_block : List ℕ → List ℕ
key_block key = padded (if nat_lt 64 (length key) then sha256 key else key)

-- each byte xor the mask
abbrev pub masked : ℕ → List ℕ → List ℕ
masked mask block = map (λ byte. bit_xor byte mask) block

-- H((key xor opad) || H((key xor ipad) || message))
unfoldable pub hmac : List ℕ → List ℕ → List ℕ
hmac key message = sha256 (masked 0x5c (key_block key) ++ sha256 (masked 0x36 (key_block key) ++ message))
