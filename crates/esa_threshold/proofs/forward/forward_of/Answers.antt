use Rattle.esa_threshold.proofs.ForwardLaws.{sure-spelled, sure-accepts}
use Rattle.esa_threshold.proofs.forward.forward_of.Goals as goal

pub returns-clause-spelled : goal.returns-clause-spelled
returns-clause-spelled c = sure-spelled c.args.bytes.items c.tested_forward.ensures.spelled c.tested_forward.result c.tested_forward.ensures.says

pub returns-clause-accepts : goal.returns-clause-accepts
returns-clause-accepts c = λ form epoch envelopes can is.
    sure-accepts c.args.bytes.items form epoch envelopes can is c.tested_forward.result c.tested_forward.ensures.says
