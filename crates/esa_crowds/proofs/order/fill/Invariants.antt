use Rattle.std.proofs.Common.{◌≡◌}
use Rattle.std.specs.Prelude.{vec_capacity}
use Rattle.esa_params.specs.Sizes.{below}
use Rattle.esa_crowds.proofs.order.fill.Given as goal

abbrev pub invariant-loop-place : goal.invariant-loop-place
invariant-loop-place l = record {
  places : l.order.items ≡ below l.place;
  room : vec_capacity l.order ≡ vec_capacity l.fn.order;
}
