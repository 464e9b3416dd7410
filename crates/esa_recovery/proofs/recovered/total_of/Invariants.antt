use Rattle.std.proofs.Common.{◌≡◌, ◌+◌, ◌*◌, ◌≤◌, take}
use Rattle.std.specs.Prelude.{sum_by}
use Rattle.esa_recovery.proofs.recovered.total_of.Given as goal

-- the counts of the rows before this one, which are no more than so many greatest counts
abbrev pub invariant-loop-row : goal.invariant-loop-row
invariant-loop-row l = record {
  sum : l.total ≡ l.db.database.unopened + sum_by (λ row. row.1) (take l.row l.db.database.rows);
  small : l.total ≤ (l.row + 1) * 4294967295;
}
