-- The entries of the attempts before this one are counted.
use Rattle.std.proofs.Common.{◌≡◌, ◌+◌, ◌*◌, ◌≤◌}
use Rattle.esa_shuffle.specs.Runs.{entries_before}
use Rattle.esa_shuffle.proofs.shuffle.most_entries.Given as goal

abbrev pub invariant-loop-attempt : goal.invariant-loop-attempt
invariant-loop-attempt l = record {
  value : l.entries ≡ entries_before l.plan l.turns l.attempt + 1;
  few : l.entries ≤ 1 + l.attempt * 6000000;
}
