use Rattle.std.proofs.Common.{◌≡◌, ◌+◌, ◌≤◌, length}
use Rattle.std.specs.Prelude.{All}
use Rattle.std.specs.Ordering.{nat_cmp}
use Rattle.std.specs.Cmp.Lexicographic.{slice_cmp}
use Rattle.esa_lists.specs.Tally.{runs}
use Rattle.esa_analyser.specs.Repeated.{all_keys, IsRepeated}
use Rattle.esa_analyser.proofs.keys.run_count.Given as goal

abbrev pub invariant-loop-rest : goal.invariant-loop-rest
invariant-loop-rest g l = record {
  counted : l.count + length (runs (slice_cmp nat_cmp) (all_keys l.rest)) ≡ length (runs (slice_cmp nat_cmp) (all_keys l.keys));
  few : l.count + length l.rest ≤ length l.keys;
  each : All IsRepeated l.rest;
}

abbrev pub decreases-loop-rest : goal.decreases-loop-rest
decreases-loop-rest g l = length l.rest
