-- The plan and the draws of the floor are those of the coins.
use Rattle.esa_spec.specs.Draws.{drawn}
use Rattle.esa_attempts.proofs.replays.replay_lines.Given as goal

abbrev pub ghosts-replayed : goal.ghosts-replayed
ghosts-replayed g a = record { plan = a.plan; draws = drawn (g.C.Coins.target_list a.coins.now) (g.C.Coins.order_list a.coins.now) }
