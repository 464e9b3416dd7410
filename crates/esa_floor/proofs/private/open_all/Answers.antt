-- One envelope more.
use Rattle.std.proofs.Common.{◌≡◌, ℕ, suc, ◌+◌, List, [], ◌∷◌, ◌++◌, length, map, take, set, sym, ap, ◌∙◌, arith, take_all}
use Rattle.std.proofs.Math.Seq.{take-suc-set}
use Rattle.std.proofs.lemmas.List.FromFn.{map-range_with_len_more}
use Rattle.esa_params.specs.Sizes.{below}
use Rattle.esa_report.specs.declared.item.Item.{Item}
use Rattle.esa_floor.specs.Private.{item_opened}
use Rattle.esa_floor.proofs.private.open_all.Goals as goal

pub loop-place-preserved : goal.loop-place-preserved
loop-place-preserved c =
    let f : ℕ → Item = item_opened c.args.keys.now c.args.size c.args.text.now in
    let one : c.loop-place.place + 1 ≡ suc c.loop-place.place = omega arith in
    ap (λ (n : ℕ). take n (set c.loop-place.items c.loop-place.place c.item_of.result)) one
    ∙ take-suc-set c.loop-place.items c.loop-place.place c.item_of.result (omega arith)
    ∙ ap (λ (items : List Item). items ++ c.item_of.result ∷ []) c.loop-place.invariant
    ∙ ap (λ (item : Item). map f (below c.loop-place.place) ++ item ∷ []) c.item_of.ensures.value
    ∙ sym (map-range_with_len_more f 0 c.loop-place.place c.loop-place.place (omega arith))

pub returns : goal.returns
returns c =
    let end : c.loop-place.place ≡ length c.args.items.now = omega arith in
    sym (take_all c.loop-place.place c.loop-place.items (omega arith)) ∙ c.loop-place.invariant
    ∙ ap (λ (n : ℕ). map (item_opened c.args.keys.now c.args.size c.args.text.now) (below n)) end
