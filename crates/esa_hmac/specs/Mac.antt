-- What a Mac stands for.
use Rattle.std.specs.Prelude.{ℕ, List, ◌++◌}
use Rattle.sha2.specs.Hashers.{Holds256}
use Rattle.esa_hmac.specs.Hmac.{key_block, masked}
use Rattle.esa_hmac.specs.declared.mac.Mac.{Mac}

-- the inner hash holds the first masked key block and the message, the outer hash the second
pub record StandsFor (s : Mac) (key message : List ℕ) : Type 0 where
  pub inner : Holds256 s.inner (masked 0x36 (key_block key) ++ message)
  pub outer : Holds256 s.outer (masked 0x5c (key_block key))
