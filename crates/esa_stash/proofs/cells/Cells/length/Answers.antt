use Rattle.std.proofs.Common.{subst, sym, ap, ◌∙◌, length, ◌<◌}
use Rattle.esa_stash.specs.Arena.{Arena, IsShared, chain_at}
use Rattle.esa_stash.proofs.Arenas.{IsShared-arena, length_chain}
use Rattle.esa_stash.proofs.cells.Cells.length.Goals as goal

pub returns-clause-length : goal.returns-clause-length
returns-clause-length c =
    let fields = c.self.inside in
    let inside = subst (λ (a : Arena). c.args.chain < length a.chains) (sym c.self.view_is) c.requires in
    c.length.ensures.length
    ∙ sym (length_chain fields.links fields.items.items c.args.chain inside)
    ∙ ap (λ (a : Arena). length (chain_at a c.args.chain)) c.self.view_is

pub returns-clause-shared : goal.returns-clause-shared
returns-clause-shared c =
    subst IsShared c.self.view_is (IsShared-arena c.self.inside.links c.self.inside.items.items c.self.invariant c.length.ensures.partition)
