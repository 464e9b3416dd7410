-- Bytes in hexadecimal digits.
use Rattle.std.specs.Prelude.{ℕ, List, Option}
use Rattle.std.specs.Result.{result_ok}
use Rattle.hex.specs.Hex.{decode_sized}

-- the bytes, as many as are wanted, that a text writes with two digits of either case for each
abbrev pub hex_in : ℕ → List ℕ → Option (List ℕ)
hex_in wanted text = result_ok (decode_sized text wanted)
