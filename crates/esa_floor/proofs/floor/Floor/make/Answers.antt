use Rattle.std.proofs.Common.{sym, ◌∙◌}
use Rattle.esa_floor.proofs.Opening.{all_drawn, stands_new}
use Rattle.esa_floor.proofs.floor.Floor.make.Goals as goal

pub returns-clause-stands : goal.returns-clause-stands
returns-clause-stands g c =
    stands_new g.V.Device.faults g.G.Told.plan c.args.plan g.G.Told.draws c.args.outer c.args.run c.args.recorder c.faults-faults.result
    c.in-Ok-with_capacity.history.items _ c.in-Ok.exchanger c.in-Ok.ensures c.in-Ok-with_capacity.ensures.items c.requires.plan
    c.requires.ready c.requires.trace c.requires.room c.faults-faults.ensures
    (all_drawn g.G.Told.plan (g.C.Coins.plan c.args.coins.now) g.G.Told.draws (g.C.Coins.target_list c.args.coins.now) (g.C.Coins.order_list c.args.coins.now)
    (c.requires.plan ∙ sym c.requires.coins) c.requires.draws
    (g.met.C.Coins.target_for_each c.args.coins.now) (g.met.C.Coins.targets_below c.args.coins.now) (g.met.C.Coins.orders_permute c.args.coins.now))
