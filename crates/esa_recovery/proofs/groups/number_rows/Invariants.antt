use Rattle.std.proofs.Common.{◌≡◌, ◌==◌, ℕ, if◌then◌else◌, slice_index, take}
use Rattle.std.specs.List.{list_any}
use Rattle.esa_recovery.proofs.groups.number_rows.Given as goal

-- the number stands at the rows of the records so far
abbrev pub invariant-loop-member : goal.invariant-loop-member
invariant-loop-member l = (row : ℕ) → slice_index l.numbers row ≡ (if list_any (λ member. member.row == row) (take l.member-index l.run) then l.number else slice_index l.fn.numbers row)
