use Rattle.std.proofs.Common.{◌∙◌}
use Rattle.esa_bytes.proofs.LineLemmas.{first_newline}
use Rattle.esa_bytes.proofs.line.line_length.Goals as goal

pub returns-clause-place : goal.returns-clause-place
returns-clause-place c = c.unwrap_or.ensures ∙ first_newline c.args.text.now c.memchr.result c.memchr.ensures
