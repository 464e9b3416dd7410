use Rattle.std.proofs.Common.{rules, ◌<◌, length, sym, subst, ◌∙◌}
use Rattle.std.proofs.lemmas.List.Sorted.{All-permutation, IsPermutation-trans}
use Rattle.esa_batcher.specs.Arranging.{ArePlaces}
use Rattle.esa_batcher.proofs.arrange.sort_by_keys.Goals as goal

pub arrange-requires : goal.arrange-requires
arrange-requires g c = (
  search rules,
  (
    c.deref_mut.ensures.len ∙ c.sort_unstable.ensures.len ∙ c.put_keys.ensures.number,
    (
      c.requires.few,
      subst (λ keys. ArePlaces (length c.args.records.now) keys) (sym c.deref_mut.ensures.value)
          (All-permutation (λ key. key.place < length c.args.records.now) _ _ c.sort_unstable.ensures.permutation c.put_keys.ensures.places),
    ),
  ),
)

pub returns-clause-same : goal.returns-clause-same
returns-clause-same g c = IsPermutation-trans _ _ _ c.arrange.ensures c.sort_unstable-2.ensures.permutation
