use Rattle.std.proofs.Common.{arith}
use Rattle.esa_analyser.proofs.DbLaws.{answer-spelled, answer-accepts}
use Rattle.esa_analyser.proofs.db.read_db.Goals as goal

pub returns-clause-spelled : goal.returns-clause-spelled
returns-clause-spelled c = answer-spelled c.args.bytes.now (λ i. omega (arith, c.type_inv.bytes i)) c.tested_db.result c.tested_db.ensures

pub returns-clause-accepts : goal.returns-clause-accepts
returns-clause-accepts c = λ form database can is. answer-accepts c.args.bytes.now form database can is c.tested_db.result c.tested_db.ensures
