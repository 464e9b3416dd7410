use Rattle.std.proofs.Common.{sym, ◌∙◌, length, arith}
use Rattle.std.proofs.lemmas.List.{ext_get_or}
use Rattle.std.proofs.lemmas.List.FromFn.{length-range_with_len, get_or-range_with_len}
use Rattle.esa_params.specs.Sizes.{below}
use Rattle.esa_coins.proofs.draws.number_up.Goals as goal

pub returns : goal.returns
returns c =
    let count = length c.args.out.now in
    let same = c.loop-place.auto.out in
    ext_get_or 0 c.loop-place.out (below count) (same ∙ sym (length-range_with_len 0 count)) (λ k inside.
    c.loop-place.invariant k (omega arith) ∙ sym (get_or-range_with_len 0 count k 0 (omega arith) ∙ omega arith))
