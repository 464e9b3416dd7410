use Rattle.std.proofs.Common.{◌≡◌, take, nat_lt, Ok}
use Rattle.esa_coins.specs.Table.{each, only_if}
use Rattle.esa_coins.specs.declared.refused.CoinsRefused.TheVariants.{Target}
use Rattle.esa_coins.proofs.lists.targets_below.Given as goal

abbrev pub invariant-loop-place : goal.invariant-loop-place
invariant-loop-place l = each (λ place target. only_if (nat_lt target l.buckets) target (Target l.attempt place)) 0 (take l.place l.numbers) ≡ Ok l.targets.items
