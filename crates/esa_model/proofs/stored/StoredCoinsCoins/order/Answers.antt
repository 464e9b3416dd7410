use Rattle.std.proofs.Common.{ℕ, List, sym, ap, ◌∙◌, length, subst, arith}
use Rattle.std.specs.Prelude.{IsPermutation}
use Rattle.std.proofs.lemmas.List.{ext_get_or}
use Rattle.std.proofs.lemmas.List.FromFn.{length-range_with_len, get_or-range_with_len}
use Rattle.std.proofs.lemmas.List.Sorted.{IsPermutation-refl}
use Rattle.esa_params.specs.Sizes.{below}
use Rattle.esa_model.proofs.stored.StoredCoinsCoins.order.Goals as goal

pub returns-clause-value : goal.returns-clause-value
returns-clause-value c =
    let count = length c.args.out.now in
    let same = c.loop-place.auto.out in
    ext_get_or 0 c.loop-place.out (below count) (same ∙ sym (length-range_with_len 0 count)) (λ k inside.
    c.loop-place.invariant k (omega arith) ∙ sym (get_or-range_with_len 0 count k 0 (omega arith) ∙ omega arith))
    ∙ ap below c.requires.room_for_all

pub returns-clause-permutes : goal.returns-clause-permutes
returns-clause-permutes c =
    let count = length c.args.out.now in
    let same = c.loop-place.auto.out in
    let is = ext_get_or 0 c.loop-place.out (below count) (same ∙ sym (length-range_with_len 0 count)) (λ k inside.
    c.loop-place.invariant k (omega arith) ∙ sym (get_or-range_with_len 0 count k 0 (omega arith) ∙ omega arith))
    ∙ ap below c.requires.room_for_all in
    subst (λ (l : List ℕ). IsPermutation l c.loop-place.out) is (IsPermutation-refl c.loop-place.out)
