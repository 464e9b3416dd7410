use Rattle.std.proofs.Common.{sym, ap, ◌∙◌, length}
use Rattle.esa_stash.proofs.Linking.{length_read, in_ends}
use Rattle.esa_stash.specs.Links.{list_at, Lists}
use Rattle.esa_stash.proofs.links.Links.length.Goals as goal

pub returns-clause-length : goal.returns-clause-length
returns-clause-length c =
    let fields = c.self.inside in
    let inside = in_ends fields.next.items fields.lists.items c.args.self.now c.args.list (ap (λ (v : Lists). v.lists) c.self.view_is) c.requires in
    sym (length_read fields.next.items fields.lists.items c.args.list c.index.result.now inside c.index.ensures)
    ∙ ap (λ (v : Lists). length (list_at v.lists c.args.list)) c.self.view_is
