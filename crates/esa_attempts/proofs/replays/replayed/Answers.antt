-- The floor that was made is new, and the workers that were made are its members.
use Rattle.std.proofs.Common.{◌<◌, List, length, get_or, refl, sym, ap, subst, arith}
use Rattle.esa_floor.specs.Parts.{Parts}
use Rattle.esa_floor.specs.Working.{Working}
use Rattle.esa_crew.specs.Posts.{IsMember}
use Rattle.esa_shuffle.proofs.Taking.{is_member}
use Rattle.esa_attempts.proofs.Replaying.{made_unbegun}
use Rattle.esa_attempts.proofs.replays.replayed.Goals as goal

pub load_and_replay-requires-clause-new : goal.load_and_replay-requires-clause-new
load_and_replay-requires-clause-new g c =
    made_unbegun g.V.Device.faults g.G.Told.plan c.args.plan g.G.Told.draws c.in-Ok.floor _ c.in-Ok.ensures.stands c.in-Ok.ensures.parts c.most_entries-entries.ensures.planned
    c.requires.plan refl c.most_entries-entries.ensures.some refl c.requires.trace refl

pub load_and_replay-requires-clause-members : goal.load_and_replay-requires-clause-members
load_and_replay-requires-clause-members g c = λ k w inside.
    let parts = c.in-Ok.ensures.parts in
    let value = c.deref_mut.ensures.value in
    let long = ap length value in
    let each = c.in_ok-crew.ensures.each in
    let within : k < c.args.plan.workers = omega (arith, inside, long, each) in
    subst (λ (ws : List (Working _)). IsMember g.G.Told.draws g.C.Coins.target_list c.in-Ok.floor k (get_or ws k w)) (sym value)
    (is_member g.G.Told.draws g.C.Coins.target_list g.C.Coins.order_list c.in-Ok.floor c.args.coins.now c.args.plan c.outer_keys-outer.result c.block_keys-keys.result k (get_or c.in_ok-crew.crew.items k w)
    (ap (λ (x : Parts _). x.plan) parts) (ap (λ (x : Parts _). x.outer) parts) (ap (λ (x : Parts _). x.run) parts) c.requires.draws within (c.in_ok-crew.ensures.made k w within))
