use Rattle.std.proofs.Common.{arith}
use Rattle.esa_report.proofs.ReportLemmas.{found_from, none_from}
use Rattle.esa_report.proofs.report.value_of.Goals as goal

pub returns-clause-found : goal.returns-clause-found
returns-clause-found g c = found_from c.args.report.now c.spelled.result c.spelled.ensures.bytes c.spelled.ensures.value

pub returns-clause-none : goal.returns-clause-none
returns-clause-none g c = none_from c.args.report.now c.spelled.result (omega arith) c.spelled.ensures.value
