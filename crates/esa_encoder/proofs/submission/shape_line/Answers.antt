use Rattle.std.proofs.Common.{◌≡◌, None, subst}
use Rattle.esa_encoder.specs.Report.{report_cause}
use Rattle.esa_encoder.proofs.LineSteps.{sent_fits}
use Rattle.esa_encoder.proofs.submission.shape_line.Goals as goal

pub seal_report-requires-clause-short : goal.seal_report-requires-clause-short
seal_report-requires-clause-short g c =
    sent_fits c.args.form c.args.line.now _ (subst (λ sent. report_cause c.args.form sent c.args.line.now ≡ None) c.in-Ok.ensures.2.front c.in-Ok.ensures.0)
