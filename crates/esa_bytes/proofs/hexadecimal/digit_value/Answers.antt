use Rattle.std.proofs.Common.{arith}
use Rattle.esa_bytes.proofs.HexadecimalLemmas.{value_of_byte}
use Rattle.esa_bytes.proofs.hexadecimal.digit_value.Goals as goal

pub returns : goal.returns
returns c = value_of_byte c.args.byte (omega arith)
