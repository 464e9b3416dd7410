use Rattle.std.proofs.Common.{◌≡◌, ℕ, ◌+◌, ◌*◌, List, ◌++◌, length, sym, ap, ◌∙◌, subst}
use Rattle.std.specs.List.Sorted.{IsPermutation}
use Rattle.circular_buffer.specs.Buffer.{Buffer}
use Rattle.esa_compress.specs.Held.{held_in}
use Rattle.esa_params.specs.Sizes.{Sizes, below}
use Rattle.esa_params.specs.Slots.{item_length}
use Rattle.esa_report.specs.declared.item.Item.{Item}
use Rattle.esa_vault.specs.Placed.{IsSpelled}
use Rattle.esa_press.specs.Records.{imported_items}
use Rattle.esa_press.proofs.Moving.{moved_all, moved_length}
use Rattle.esa_press.proofs.press.import_some.Goals as goal

pub returns-in-Ok-clause-counted : goal.returns-in-Ok-clause-counted
returns-in-Ok-clause-counted g c =
    let p = c.args.plan.now in
    let items = c.fetch_import.new.items in
    let many : g.C.Coins.plan c.args.coins.now ≡ p = c.requires.coins in
    let each_once : IsPermutation (below (length items)) c.order.new.out =
    subst (λ (n : ℕ). IsPermutation (below n) c.order.new.out)
    (ap (λ (q : Sizes). q.b * q.c + q.k) many ∙ sym (c.fetch_import.auto.items ∙ c.requires.items)) c.order.ensures.permutes in
    moved_length c.args.window.now.items items c.order.new.out c.import.new.self.items each_once (ap (λ (w : Buffer Item). w.items) c.in-Ok.ensures.moved)
    ∙ ap (λ (n : ℕ). length c.args.window.now.items + n) c.in_default.ensures.counted

pub returns-in-Ok-clause-gives : goal.returns-in-Ok-clause-gives
returns-in-Ok-clause-gives g c = λ chunks left faithful stored.
    ap (λ (w : Buffer Item). w.items) c.in-Ok.ensures.moved
    ∙ ap (λ (items : List Item). c.args.window.now.items ++ held_in items c.order.new.out) (c.in_default.ensures.gives chunks left faithful stored)
    ∙ ap (λ (order : List ℕ). c.args.window.now.items ++ held_in (imported_items c.args.plan.now chunks left) order) c.order.ensures.value

pub returns-in-Ok-clause-spelled : goal.returns-in-Ok-clause-spelled
returns-in-Ok-clause-spelled g c =
    moved_all (IsSpelled (item_length c.args.plan.now.form)) c.args.window.now.items c.fetch_import.new.items c.order.new.out c.import.new.self.items
    (ap (λ (w : Buffer Item). w.items) c.in-Ok.ensures.moved) c.requires.spelled c.in_default.ensures.spelled
