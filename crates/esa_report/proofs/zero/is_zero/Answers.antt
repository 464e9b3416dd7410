use Rattle.std.proofs.Common.{◌∙◌}
use Rattle.esa_report.proofs.ZeroLemmas.{is_zero-shifted}
use Rattle.esa_report.proofs.zero.is_zero.Goals as goal

pub returns-then-bytes-eq0 : goal.returns-then-bytes-eq0
returns-then-bytes-eq0 c = c.eq.ensures ∙ is_zero-shifted c.args.bytes.now c.if-bytes-eq0.true
