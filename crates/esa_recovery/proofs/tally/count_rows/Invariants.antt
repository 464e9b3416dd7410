use Rattle.std.proofs.Common.{◌≡◌, ◌+◌, ◌<◌, ◌≤◌, Bool, ℕ, List, Option, Some, length, drop}
use Rattle.std.specs.Prelude.{All}
use Rattle.esa_recovery.specs.Meaning.{meaning}
use Rattle.esa_recovery.specs.Groups.{given}
use Rattle.esa_recovery.specs.Sums.{tested, tested_groups, plain}
use Rattle.esa_recovery.proofs.tally.count_rows.Given as goal

-- the rows from this one on were counted
abbrev pub invariant-loop-left : goal.invariant-loop-left
invariant-loop-left l = record {
  inside : l.left ≤ length l.db.database.rows;
  each : length l.counts.items ≡ length (given l.groups);
  some : All (λ row. 0 < row.1) (plain l.sums.items);
  counted : (test : Option (List ℕ) → Bool)
      → tested test Some (plain l.sums.items) + tested_groups test (given l.groups) l.counts.items ≡ tested test (meaning l.db.database.rows) (drop l.left l.db.database.rows);
}

abbrev pub decreases-loop-left : goal.decreases-loop-left
decreases-loop-left l = l.left
