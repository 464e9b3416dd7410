use Rattle.esa_laws.proofs.FileLaws.{length-access, length-trace, trace-part}
use Rattle.esa_laws.proofs.files.trace_in_parts.Goals as goal

pub returns-clause-access : goal.returns-clause-access
returns-clause-access c = length-access

pub returns-clause-length : goal.returns-clause-length
returns-clause-length c = length-trace

pub returns-clause-part : goal.returns-clause-part
returns-clause-part c = trace-part
