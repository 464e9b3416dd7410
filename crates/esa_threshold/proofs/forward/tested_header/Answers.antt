use Rattle.std.proofs.Common.{arith}
use Rattle.esa_threshold.proofs.ForwardLaws.{forward_in-spelled}
use Rattle.esa_threshold.proofs.forward.tested_header.Goals as goal

pub returns-clause-spelled : goal.returns-clause-spelled
returns-clause-spelled c = forward_in-spelled c.args.bytes.now (λ i. omega (arith, c.type_inv.bytes i))
