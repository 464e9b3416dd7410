use Rattle.std.proofs.Common.{ap, ◌∙◌, length, arith}
use Rattle.std.specs.Prelude.{replicate}
use Rattle.esa_report.specs.Report.{value_in}
use Rattle.esa_report.proofs.ReportLemmas.{value_in-report_of}
use Rattle.esa_report.proofs.report.code.Goals as goal

pub returns-clause-reads_back : goal.returns-clause-reads_back
returns-clause-reads_back g c =
    ap (λ report. value_in report) c.spell.ensures
    ∙ value_in-report_of (length (replicate g.row.P 0)) c.args.value.now (omega arith)
