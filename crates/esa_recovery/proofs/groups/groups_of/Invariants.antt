use Rattle.std.proofs.Common.{◌≡◌, ◌-◌, length, map, option_map}
use Rattle.esa_recovery.proofs.RunLaws.{IsOpened}
use Rattle.esa_recovery.proofs.groups.groups_of.Given as goal

-- the groups of the records before this one are open
abbrev pub invariant-loop-start : goal.invariant-loop-start
invariant-loop-start l = record {
  opened : IsOpened l.db.database.rows l.found.items l.start (map (option_map (λ value. value.items)) l.values.items) l.numbers.items;
  numbered : length l.numbers.items ≡ length l.db.database.rows;
}

abbrev pub decreases-loop-start : goal.decreases-loop-start
decreases-loop-start l = length l.found.items - l.start
