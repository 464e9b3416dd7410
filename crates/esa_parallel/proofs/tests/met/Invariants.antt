-- The plan and the draws of the run are those of its coins.
use Rattle.esa_spec.specs.Draws.{drawn}
use Rattle.esa_parallel.proofs.tests.met.Given as goal

abbrev pub ghosts-run_told : goal.ghosts-run_told
ghosts-run_told g a = record { plan = a.plan; draws = drawn (g.C.Coins.target_list a.coins.now) (g.C.Coins.order_list a.coins.now) }
