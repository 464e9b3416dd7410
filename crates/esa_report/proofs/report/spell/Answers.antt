use Rattle.std.proofs.Common.{length, refl}
use Rattle.std.specs.Int.{w16, to_be_bytes}
use Rattle.esa_report.proofs.ReportLemmas.{report_of-written}
use Rattle.esa_report.proofs.report.spell.Goals as goal

pub returns : goal.returns
returns c =
    rw (c.copy_from_slice.ensures.after, c.put_u16.ensures.written)
    (report_of-written c.args.value.now (to_be_bytes w16 (length c.args.value.now)) c.args.report.now (length c.args.report.now) c.requires.zero refl)
