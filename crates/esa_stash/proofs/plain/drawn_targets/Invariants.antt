use Rattle.std.proofs.Common.{◌<◌, All}
use Rattle.esa_stash.proofs.plain.drawn_targets.Given as goal

abbrev pub invariant-loop-turn : goal.invariant-loop-turn
invariant-loop-turn l = All (λ target. target < l.limit) l.targets.items
