use Rattle.std.proofs.Common.{subst, ◌∙◌}
use Rattle.std.proofs.lemmas.List.Sorted.{IsPermutation-trans, length_permutation}
use Rattle.esa_batcher.specs.Arranging.{ArePlaces}
use Rattle.esa_batcher.proofs.arrange.arrange.Goals as goal

pub loop-start-preserved : goal.loop-start-preserved
loop-start-preserved g c =
    let i = c.loop-start.invariant in
    let called = c.arrange_cycle.ensures in
    record {
      same = IsPermutation-trans _ _ _ i.same called.same;
      long = length_permutation _ _ called.same ∙ i.long;
      number = called.number ∙ i.number;
      places = subst (λ n. ArePlaces n c.arrange_cycle.new.keys) i.long called.places;
    }
