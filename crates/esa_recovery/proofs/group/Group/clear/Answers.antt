use Rattle.std.proofs.Common.{[], sym, subst₂}
use Rattle.esa_recovery.specs.Group.{HasTaken}
use Rattle.esa_recovery.proofs.GroupLaws.{HasTaken-empty}
use Rattle.esa_recovery.proofs.group.Group.clear.Goals as goal

pub returns : goal.returns
returns c = λ group. subst₂ (HasTaken group []) (sym c.clear.ensures.items) (sym c.clear-2.ensures.items) (HasTaken-empty group)
