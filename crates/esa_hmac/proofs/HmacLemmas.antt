-- The length of an HMAC.
use Rattle.std.proofs.Common.{◌≡◌, ℕ, List, length, refl}
use Rattle.sha2.specs.Sha256.{sha256, digest_bytes}
use Rattle.esa_hmac.specs.Hmac.{hmac}

-- an HMAC has 32 bytes
pub length-hmac : (key message : List ℕ) → length (hmac key message) ≡ 32
unfolding hmac sha256 digest_bytes
length-hmac key message = refl
