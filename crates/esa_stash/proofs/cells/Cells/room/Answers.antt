use Rattle.std.proofs.Common.{subst}
use Rattle.esa_stash.specs.Arena.{IsShared}
use Rattle.esa_stash.proofs.Arenas.{IsShared-arena}
use Rattle.esa_stash.proofs.cells.Cells.room.Goals as goal

pub returns-clause-shared : goal.returns-clause-shared
returns-clause-shared c =
    subst IsShared c.self.view_is (IsShared-arena c.self.inside.links c.self.inside.items.items c.self.invariant c.room.ensures.partition)
