use Rattle.std.proofs.Common.{append_assoc}
use Rattle.esa_refusal.proofs.refusal.add_batch.Goals as goal

pub returns-in-BadVersion : goal.returns-in-BadVersion
returns-in-BadVersion c = rw (c.word-in-BadVersion.ensures, c.word.ensures, c.in-BadVersion.is, append_assoc)
