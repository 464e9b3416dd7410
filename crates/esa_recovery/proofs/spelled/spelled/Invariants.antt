use Rattle.std.proofs.Common.{◌≡◌, ◌++◌, drop}
use Rattle.std.specs.Prelude.{flat_map}
use Rattle.esa_analyser.specs.Rows.{database_bytes, row_bytes}
use Rattle.esa_recovery.specs.Sums.{plain}
use Rattle.esa_recovery.proofs.spelled.spelled.Given as goal

-- with the rows that are left it is the file
abbrev pub invariant-loop-sum : goal.invariant-loop-sum
invariant-loop-sum l = l.bytes.items ++ flat_map row_bytes (plain (drop l.sum-index l.sums)) ≡ database_bytes l.fn.form (record { rows = plain l.sums; unopened = l.fn.unopened })
