use Rattle.std.proofs.Common.{◌<◌, arith, ◌∙◌, length, length-set}
use Rattle.std.proofs.lemmas.List.Elements.{All-set}
use Rattle.std.proofs.lemmas.List.Sorted.{IsPermutation-trans}
use Rattle.esa_batcher.proofs.arrange.arrange_cycle.Goals as goal

pub loop-preserved : goal.loop-preserved
loop-preserved g c =
    let i = c.loop.invariant in
    record {
      same = IsPermutation-trans _ _ _ i.same c.swap.ensures.permutation;
      long = c.swap.ensures.len ∙ i.long;
      number = length-set c.loop.keys c.loop.at _ ∙ i.number;
      inside = i.places c.loop.at _ (omega (arith, i.number, i.inside));
      places = All-set (λ key. key.place < length c.args.records.now) c.loop.keys c.loop.at _ i.inside i.places;
    }
