use Rattle.std.proofs.Common.{◌+◌, ◌-◌, List, sym, subst, ◌∙◌, arith, length-take, length-drop}
use Rattle.std.proofs.lemmas.Slice.{between-put_mid}
use Rattle.esa_report.specs.declared.item.Item.{Item}
use Rattle.esa_press.specs.Fetched.{AreGot}
use Rattle.esa_press.proofs.import.fetch_part.Goals as goal

pub returns-clause-got : goal.returns-clause-got
returns-clause-got g c =
    let inside = c.requires.inside in
    let kept = c.fetch_items.auto.items in
    subst (λ (xs : List Item). AreGot c.args.plan.now c.args.keys.now c.args.slot c.args.attempt c.args.count xs c.args.recorder.now c.fetch_items.new.recorder c.fetch_items.result)
    (sym (between-put_mid c.args.from (c.args.from + c.args.size - c.args.from) c.args.items.now c.fetch_items.new.items (c.args.from + c.args.size) (omega arith) (kept ∙ omega (arith, length-take {A = Item}, length-drop {A = Item}))))
    c.fetch_items.ensures.got
