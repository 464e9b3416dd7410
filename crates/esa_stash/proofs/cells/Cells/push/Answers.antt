use Rattle.std.proofs.Common.{rules, subst, sym, ap, ◌∙◌, length, ◌<◌, set}
use Rattle.esa_stash.specs.Links.{Lists}
use Rattle.esa_stash.specs.Arena.{Arena, pushed, IsShared}
use Rattle.esa_stash.specs.Inside.{arena_of}
use Rattle.esa_stash.proofs.Arenas.{cell_in_room, arena_of-pushed, IsShared-arena}
use Rattle.esa_stash.proofs.cells.Cells.push.Goals as goal
use Rattle.esa_stash.proofs.cells.Cells.push.Goals.{After-shift}

pub index_mut-requires : goal.index_mut-requires
index_mut-requires c =
    let inside = cell_in_room c.self.inside.links.room c.self.inside.links.lists 0 c.in-Some.cell c.shift.ensures.partition c.self.invariant.free c.in-Some.ensures.cell in
    search rules

pub returns-in-Some-clause-pushed : goal.returns-in-Some-clause-pushed
returns-in-Some-clause-pushed c =
    let fields = c.self.inside in
    let inside = subst (λ (a : Arena). c.args.chain < length a.chains) (sym c.self.view_is) c.requires in
    ap (λ (links : Lists). arena_of links (set fields.items.items c.in-Some.cell c.args.item)) c.shift.ensures.lists
    ∙ arena_of-pushed fields.links fields.items.items c.args.chain c.in-Some.cell c.args.item c.self.invariant c.shift.ensures.partition inside c.in-Some.ensures.cell
    ∙ ap (λ (a : Arena). pushed a c.args.chain c.args.item) c.self.view_is

shared : (c : After-shift) → IsShared c.args.self.now
shared c = subst IsShared c.self.view_is (IsShared-arena c.self.inside.links c.self.inside.items.items c.self.invariant c.shift.ensures.partition)

pub returns-in-Some-clause-shared : goal.returns-in-Some-clause-shared
returns-in-Some-clause-shared c = shared (goal.at.returns-in-Some-clause-shared c).After-shift

pub returns-in-None-clause-shared : goal.returns-in-None-clause-shared
returns-in-None-clause-shared c = shared (goal.at.returns-in-None-clause-shared c).After-shift
