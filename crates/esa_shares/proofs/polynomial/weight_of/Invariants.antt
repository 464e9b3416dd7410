use Rattle.std.proofs.Common.{◌≡◌, ◌<◌, drop}
use Rattle.esa_shares.specs.Field.{times}
use Rattle.esa_shares.specs.Polynomial.{weight}
use Rattle.esa_shares.proofs.polynomial.weight_of.Given as goal

abbrev pub invariant-loop-point : goal.invariant-loop-point
invariant-loop-point l = record {
  small : l.product < 256;
  whole : times l.product (weight l.x (drop l.point-index l.points)) ≡ weight l.x l.points;
}
