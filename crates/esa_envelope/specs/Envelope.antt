-- Sealed envelopes.
use Rattle.std.specs.Prelude.{ℕ, ◌-◌, nat_le, Bool, ◌&&◌, if◌then◌else◌, List, ◌++◌, length, take, drop, slice_range, bytes_eq, Option, Some, None}
use Rattle.std.specs.Int.{w64, to_be_bytes}
use Rattle.esa_bytes.specs.Field.{u64_in}
use Rattle.esa_hmac.specs.Hmac.{hmac}
use Rattle.esa_envelope.specs.declared.keys.Keys.{Keys}
use Rattle.esa_envelope.specs.declared.label.Label.{Label}
use Rattle.esa_envelope.specs.Label.{label_text}
use Rattle.esa_envelope.specs.Keystream.{ciphered}

-- the nonce's eight bytes and the cipher text
abbrev pub body_of : Keys → ℕ → List ℕ → List ℕ
body_of keys nonce plain = to_be_bytes w64 nonce ++ ciphered keys.enc nonce 0 plain

-- the HMAC of a label's text and a body
abbrev pub tag_of : Keys → Label → List ℕ → List ℕ
tag_of keys label body = hmac keys.mac (label_text label ++ body)

-- the envelope of a text: its body and the body's tag
unfoldable pub sealed_as : Keys → Label → ℕ → List ℕ → List ℕ
sealed_as keys label nonce plain = body_of keys nonce plain ++ tag_of keys label (body_of keys nonce plain)

-- an envelope's own nonce
abbrev pub nonce_in : List ℕ → ℕ
nonce_in envelope = u64_in envelope 0

-- there is room for a nonce and a tag, and the last 32 bytes are the tag of those before them
abbrev pub has_tag : Keys → Label → List ℕ → Bool
has_tag keys label envelope =
    nat_le 40 (length envelope)
    && bytes_eq (tag_of keys label (take (length envelope - 32) envelope)) (drop (length envelope - 32) envelope)

-- the text of an envelope, where the tag agrees
unfoldable pub opened : Keys → Label → List ℕ → Option (List ℕ)
opened keys label envelope =
    if has_tag keys label envelope
    then Some (ciphered keys.enc (nonce_in envelope) 0 (slice_range envelope 8 (length envelope - 32)))
    else None
