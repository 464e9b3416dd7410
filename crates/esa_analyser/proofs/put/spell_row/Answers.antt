use Rattle.std.proofs.Common.{◌∙◌}
use Rattle.esa_analyser.proofs.RowWriting.{take-row}
use Rattle.esa_analyser.proofs.put.spell_row.Goals as goal

pub returns-clause-row : goal.returns-clause-row
returns-clause-row c =
    take-row c.args.value.now c.args.out.now c.copy_from_slice.new.self c.copy_from_slice-2.new.self c.args.count c.requires.short c.requires.room c.copy_from_slice.ensures.after (c.copy_from_slice-2.ensures.after ∙ c.to_be_bytes.ensures)
