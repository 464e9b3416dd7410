use Rattle.std.proofs.Common.{sym, ◌∙◌}
use Rattle.esa_bytes.proofs.FieldLemmas.{u32_in-at}
use Rattle.esa_bytes.proofs.field.u32_at.Goals as goal

pub returns : goal.returns
returns c = c.from_be_bytes.ensures ∙ sym (u32_in-at c.args.bytes.now c.args.at)
