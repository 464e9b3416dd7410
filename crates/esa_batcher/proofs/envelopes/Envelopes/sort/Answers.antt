use Rattle.std.proofs.Common.{sym, ap, ◌∙◌}
use Rattle.esa_lists.specs.Ordered.{ordered}
use Rattle.esa_batcher.specs.Envelopes.{list_of}
use Rattle.esa_batcher.specs.Rising.{by_bytes}
use Rattle.esa_batcher.proofs.ArrangingLaws.{sorted_back}
use Rattle.esa_batcher.proofs.envelopes.Envelopes.sort.Goals as goal

pub returns-in-One-clause-list : goal.returns-in-One-clause-list
returns-in-One-clause-list c =
    sorted_back c.in-One.list.len c.in-One.list.items c.deref_mut.result.now c.sort_by_keys.new.records
    c.deref_mut.ensures.value c.deref_mut.ensures.len c.sort_by_keys.ensures.same c.sort_by_keys.ensures.sorted
    ∙ ap (λ envelopes. ordered by_bytes (list_of envelopes)) (sym c.in-One.is)

pub returns-in-Two-clause-list : goal.returns-in-Two-clause-list
returns-in-Two-clause-list c =
    sorted_back c.in-Two.list.len c.in-Two.list.items c.deref_mut-in-Two.result.now c.sort_by_keys-in-Two.new.records
    c.deref_mut-in-Two.ensures.value c.deref_mut-in-Two.ensures.len c.sort_by_keys-in-Two.ensures.same c.sort_by_keys-in-Two.ensures.sorted
    ∙ ap (λ envelopes. ordered by_bytes (list_of envelopes)) (sym c.in-Two.is)
