use Rattle.std.proofs.Common.{arith}
use Rattle.esa_bytes.proofs.DecimalLemmas.{decimal_in-decimal_of}
use Rattle.esa_bytes.proofs.decimals.put_decimal.Goals as goal

pub returns-clause-reads_back : goal.returns-clause-reads_back
returns-clause-reads_back c = decimal_in-decimal_of c.args.v (omega arith)
