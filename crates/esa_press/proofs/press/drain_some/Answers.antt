use Rattle.std.proofs.Common.{All, length, sym, subst}
use Rattle.esa_params.specs.Sizes.{Sizes}
use Rattle.esa_params.specs.Slots.{item_length}
use Rattle.esa_stash.specs.Stash.{queue_at}
use Rattle.esa_vault.specs.Placed.{IsSpelled}
use Rattle.esa_press.proofs.Opened.{padded_spelled}
use Rattle.esa_press.proofs.press.drain_some.Goals as goal

pub store_items-requires-clause-spelled : goal.store_items-requires-clause-spelled
store_items-requires-clause-spelled g c =
    let f = c.args.floor.now in
    subst (λ (q : Sizes). All (IsSpelled (item_length q.form)) c.spill.new.out) (sym c.requires.plan)
    (subst (All (IsSpelled (item_length f.plan.form))) (sym c.in-Ok.ensures.moved)
    (padded_spelled (item_length f.plan.form) (length c.args.left.now) (queue_at f.stash c.args.target) c.requires.spelled))
