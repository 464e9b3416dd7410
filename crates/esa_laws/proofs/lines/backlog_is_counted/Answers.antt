use Rattle.esa_laws.proofs.LineLaws.{length-queued}
use Rattle.esa_laws.proofs.lines.backlog_is_counted.Goals as goal

pub returns : goal.returns
returns c = length-queued
