-- No difference is taken away, and none is added where the files are the same.
use Rattle.std.proofs.Common.{◌≡◌, ◌≤◌, length}
use Rattle.esa_case_parts.specs.Judged.{AreSame}
use Rattle.esa_case_parts.proofs.judging.judge_absent.Given as goal

abbrev pub invariant-loop-name : goal.invariant-loop-name
invariant-loop-name l = record {
  kept : length l.initial.differences.items ≤ length l.differences.items;
  same : AreSame l.cabinet.files l.wanted.files → length l.differences.items ≡ length l.initial.differences.items;
}
