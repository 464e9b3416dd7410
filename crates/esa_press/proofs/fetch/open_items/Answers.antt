-- One item more.
use Rattle.std.proofs.Common.{◌≡◌, ℕ, suc, ◌+◌, ◌*◌, ◌≤◌, List, [], ◌∷◌, ◌++◌, length, map, take, set, sym, ap, ◌∙◌, subst, arith, take_all}
use Rattle.std.proofs.Math.Seq.{take-suc-set}
use Rattle.std.proofs.lemmas.List.FromFn.{map-range_with_len_more}
use Rattle.esa_params.specs.Sizes.{below}
use Rattle.esa_params.specs.Slots.{item_length}
use Rattle.esa_report.specs.declared.item.Item.{Item}
use Rattle.esa_vault.proofs.TextLaws.{place-inside}
use Rattle.esa_press.specs.Records.{item_there}
use Rattle.esa_press.proofs.fetch.open_items.Goals as goal

pub item_there-requires : goal.item_there-requires
item_there-requires c =
    let size = item_length c.args.form in
    subst (λ (m : ℕ). c.loop-place.place * size + size ≤ m) c.requires
    (place-inside size c.loop-place.place (length c.args.items.now) (omega arith))

pub loop-place-preserved : goal.loop-place-preserved
loop-place-preserved c =
    let f : ℕ → Item = item_there (item_length c.args.form) c.args.text.now in
    let one : c.loop-place.place + 1 ≡ suc c.loop-place.place = omega arith in
    ap (λ (n : ℕ). take n (set c.loop-place.items c.loop-place.place c.item_there.result)) one
    ∙ take-suc-set c.loop-place.items c.loop-place.place c.item_there.result (omega arith)
    ∙ ap (λ (items : List Item). items ++ c.item_there.result ∷ []) c.loop-place.invariant
    ∙ ap (λ (item : Item). map f (below c.loop-place.place) ++ item ∷ []) c.item_there.ensures
    ∙ sym (map-range_with_len_more f 0 c.loop-place.place c.loop-place.place (omega arith))

pub returns : goal.returns
returns c =
    let end : c.loop-place.place ≡ length c.args.items.now = omega arith in
    sym (take_all c.loop-place.place c.loop-place.items (omega arith)) ∙ c.loop-place.invariant
    ∙ ap (λ (n : ℕ). map (item_there (item_length c.args.form) c.args.text.now) (below n)) end
