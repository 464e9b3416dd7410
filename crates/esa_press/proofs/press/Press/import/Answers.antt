use Rattle.std.proofs.Common.{◌≡◌, ℕ, List, ◌++◌, OnOk, subst}
use Rattle.esa_compress.specs.Held.{held_in}
use Rattle.esa_device.specs.Logs.{IsFaithful}
use Rattle.esa_report.specs.declared.item.Item.{Item}
use Rattle.esa_press.specs.Fetched.{AreStored}
use Rattle.esa_press.specs.Pressed.{Pressed}
use Rattle.esa_press.specs.Records.{imported_items}
use Rattle.esa_press.proofs.press.Press.import.Goals as goal

pub returns-clause-gives : goal.returns-clause-gives
returns-clause-gives g c =
    subst (λ (w : Pressed). (chunks : ℕ → List Item) (left : List Item) → IsFaithful w.plan c.import_some.new.recorder.log
    → AreStored w.plan w.run c.args.attempt c.args.target c.args.recorder.now.log chunks left
    → OnOk c.import_some.result (c.import_some.new.window.items ≡ w.queue ++ held_in (imported_items w.plan chunks left) (g.C.Coins.order_list c.args.coins.now c.args.attempt c.args.target)))
    c.self.view_is c.import_some.ensures.gives
