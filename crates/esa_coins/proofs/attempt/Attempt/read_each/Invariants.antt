use Rattle.std.proofs.Common.{◌≡◌, take, map, Ok}
use Rattle.serde_json.specs.View.{view}
use Rattle.esa_coins.specs.Attempt.{table_of}
use Rattle.esa_coins.specs.Table.{each, table_in}
use Rattle.esa_coins.proofs.attempt.Attempt.read_each.Given as goal

abbrev pub invariant-loop-attempt : goal.invariant-loop-attempt
invariant-loop-attempt l = each (λ attempt object. table_in l.plan attempt (view object)) 0 (take l.attempt l.objects) ≡ Ok (map table_of l.attempts.items)
