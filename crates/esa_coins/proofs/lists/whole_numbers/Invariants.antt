use Rattle.std.proofs.Common.{◌≡◌, take, Ok}
use Rattle.std.specs.Option.{ok_or}
use Rattle.serde_json.specs.View.{view}
use Rattle.esa_json.specs.Values.{number_in}
use Rattle.esa_coins.specs.Table.{each}
use Rattle.esa_coins.proofs.lists.whole_numbers.Given as goal

abbrev pub invariant-loop-value : goal.invariant-loop-value
invariant-loop-value l = each (λ _ value. ok_or (number_in (view value)) l.refused) 0 (take l.value-index l.values) ≡ Ok l.numbers.items
