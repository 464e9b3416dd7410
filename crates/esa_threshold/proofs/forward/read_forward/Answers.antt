use Rattle.std.proofs.Common.{arith}
use Rattle.esa_threshold.proofs.ForwardLaws.{answer-spelled, answer-accepts}
use Rattle.esa_threshold.proofs.forward.read_forward.Goals as goal

pub returns-clause-spelled : goal.returns-clause-spelled
returns-clause-spelled c = answer-spelled c.args.bytes.now (λ i. omega (arith, c.type_inv.bytes i)) c.copied_forward.result c.copied_forward.ensures

pub returns-clause-accepts : goal.returns-clause-accepts
returns-clause-accepts c = λ form epoch envelopes can is.
    answer-accepts c.args.bytes.now form epoch envelopes can is c.copied_forward.result c.copied_forward.ensures
