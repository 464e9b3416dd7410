use Rattle.std.proofs.Common.{◌≤◌, ◌+◌, ◌++◌, length, drop, ap, ◌∙◌, arith, length-append}
use Rattle.esa_compress.specs.Held.{held_in}
use Rattle.esa_compress.proofs.HeldLaws.{entered, room-for}
use Rattle.esa_compress.proofs.window.Window.enter_all.Goals as goal

pub enter-requires : goal.enter-requires
enter-requires c =
    let items = c.args.items.now in
    let order = c.args.order.now in
    let k = c.loop-index.index-index in
    let queue = c.loop-index.self.items in
    let room : length (queue ++ held_in items (drop k order)) ≤ c.loop-index.self.capacity =
    omega (arith, ap length c.loop-index.invariant.0, length-append c.args.self.now.items (held_in items order), c.loop-index.invariant.1, c.requires.room) in
    record { room = room-for items order k _ c.loop-index-test.true c.named.ensures queue c.loop-index.self.capacity room }

pub loop-index-preserved : goal.loop-index-preserved
loop-index-preserved c =
    let items = c.args.items.now in
    let order = c.args.order.now in
    let k = c.loop-index.index-index in
    let queue = c.loop-index.self.items in (
      ap (λ b. b.items ++ held_in items (drop (k + 1) order)) c.enter.ensures
          ∙ entered items order k _ c.loop-index-test.true c.named.ensures queue
          ∙ c.loop-index.invariant.0,
      ap (λ b. b.capacity) c.enter.ensures ∙ c.loop-index.invariant.1,
    )
