use Rattle.std.proofs.Common.{refl}
use Rattle.esa_refusal.proofs.failures.verdict_line.Goals as goal

pub returns-in-StashOverflow : goal.returns-in-StashOverflow
returns-in-StashOverflow c = rw (c.add_numbered-in-StashOverflow.ensures.text, c.from.ensures, c.add_numbered.ensures.text, c.new-line.ensures, c.in-StashOverflow.is) refl

pub returns-in-QueueOverflow : goal.returns-in-QueueOverflow
returns-in-QueueOverflow c = rw (c.add_numbered-in-QueueOverflow.ensures.text, c.from-in-QueueOverflow.ensures, c.add_numbered.ensures.text, c.new-line.ensures, c.in-QueueOverflow.is) refl

pub returns-in-QueueStarved : goal.returns-in-QueueStarved
returns-in-QueueStarved c = rw (c.add_numbered-in-QueueStarved.ensures.text, c.from-in-QueueStarved.ensures, c.add_numbered.ensures.text, c.new-line.ensures, c.in-QueueStarved.is) refl
