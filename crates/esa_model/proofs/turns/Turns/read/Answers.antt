use Rattle.std.proofs.Common.{ap, ◌∙◌, arith}
use Rattle.esa_model.specs.Turns.{turns_of}
use Rattle.esa_model.proofs.ReadBack.{turns-back, read-as}
use Rattle.esa_model.proofs.turns.Turns.read.Goals as goal

pub returns-clause-reads_back : goal.returns-clause-reads_back
returns-clause-reads_back c lists can is =
    read-as c.read_lines.result lists (turns_of c.args.workers c.args.attempts c.args.bytes.now)
    (ap (turns_of c.args.workers c.args.attempts) is ∙ turns-back c.args.workers c.args.attempts lists (omega arith) can)
    c.read_lines.ensures.first_refusal
