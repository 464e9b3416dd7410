use Rattle.std.proofs.Common.{ap, arith}
use Rattle.std.proofs.Common.{length}
use Rattle.esa_coins.specs.declared.refused.CoinsRefused.TheVariants.{Targets}
use Rattle.esa_coins.proofs.TableReading.{length-numbers_in}
use Rattle.esa_coins.proofs.lists.targets_in.Goals as goal

pub targets_below-requires : goal.targets_below-requires
targets_below-requires c =
    let full = length-numbers_in c.n.result (Targets c.args.attempt) _ c.in_ok-numbers.numbers.items c.in_ok-numbers.ensures in
    omega (arith, full, ap length c.as_slice.ensures.value, c.n.ensures.value, c.n.ensures.limits.n_greatest)
