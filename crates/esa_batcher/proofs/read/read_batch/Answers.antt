use Rattle.std.proofs.Common.{arith}
use Rattle.esa_batcher.proofs.BatchLaws.{answer-spelled, answer-accepts}
use Rattle.esa_batcher.proofs.read.read_batch.Goals as goal

pub returns-clause-spelled : goal.returns-clause-spelled
returns-clause-spelled c = answer-spelled c.args.m c.args.bytes.now (λ i. omega (arith, c.type_inv.bytes i)) c.tested_batch.result c.tested_batch.ensures

pub returns-clause-accepts : goal.returns-clause-accepts
returns-clause-accepts c = λ batch is many spelled.
    answer-accepts c.args.m c.args.bytes.now batch is many spelled c.tested_batch.result c.tested_batch.ensures
