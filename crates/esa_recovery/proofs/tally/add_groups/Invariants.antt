use Rattle.std.proofs.Common.{◌≡◌, ◌+◌, ◌<◌, Bool, ℕ, List, Option, None, Some, drop}
use Rattle.std.specs.Prelude.{All}
use Rattle.esa_recovery.specs.Groups.{given}
use Rattle.esa_recovery.specs.Sums.{counted, tested, tested_groups, plain}
use Rattle.esa_recovery.proofs.tally.add_groups.Given as goal

-- with the groups that are left they are all
abbrev pub invariant-loop-number : goal.invariant-loop-number
invariant-loop-number l = record {
  some : All (λ row. 0 < row.1) (plain l.sums.items);
  counted : (test : Option (List ℕ) → Bool)
      → tested test Some (plain l.sums.items) + counted test None l.lost + tested_groups test (drop l.number (given l.groups)) (drop l.number l.counts)
      ≡ tested test Some (plain l.fn.sums.items) + tested_groups test (given l.groups) l.counts;
}
