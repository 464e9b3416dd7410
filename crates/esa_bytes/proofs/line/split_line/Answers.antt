use Rattle.std.proofs.Common.{sym, ◌∙◌}
use Rattle.esa_bytes.proofs.LineLemmas.{ends_before, is_whole, first_ends_before, first_is_whole}
use Rattle.esa_bytes.proofs.line.split_line.Goals as goal

pub returns-then-end-text-clause-place : goal.returns-then-end-text-clause-place
returns-then-end-text-clause-place c = first_ends_before c.args.text.now c.line_length-end.result c.line_length-end.ensures.place c.if-end-text.true

pub returns-then-end-text-clause-lines : goal.returns-then-end-text-clause-lines
returns-then-end-text-clause-lines c = ends_before c.args.text.now c.line_length-end.result c.line_length-end.ensures.place c.if-end-text.true

pub returns-else-end-text-clause-place : goal.returns-else-end-text-clause-place
returns-else-end-text-clause-place c = first_is_whole c.args.text.now c.line_length-end.result c.line_length-end.ensures.place c.if-end-text.false

pub returns-else-end-text-clause-lines : goal.returns-else-end-text-clause-lines
returns-else-end-text-clause-lines c = is_whole c.args.text.now c.line_length-end.result c.line_length-end.ensures.place c.if-end-text.false (sym c.is_empty.ensures ∙ c.if-is_empty.false)
