use Rattle.std.proofs.Common.{sym, ap, ◌∙◌}
use Rattle.esa_bytes.specs.Lines.{text_lines}
use Rattle.esa_batcher.specs.Submitted.{joined_to, lines_in}
use Rattle.esa_batcher.proofs.LinesLaws.{lines_carry, joined_none}
use Rattle.esa_batcher.proofs.lines.gather.Goals as goal

pub returns-clause-envelopes : goal.returns-clause-envelopes
returns-clause-envelopes c =
    let lines = text_lines c.args.submissions.now in
    let made = c.in_ok-batcher.ensures in
    lines_carry c.args.form 1 lines c.add_lines.new.batcher.list
    (sym (ap (λ batcher. joined_to batcher.list (lines_in batcher.form 1 lines)) made ∙ joined_none (lines_in c.args.form 1 lines)) ∙ c.in_ok-add_lines.ensures.added)
