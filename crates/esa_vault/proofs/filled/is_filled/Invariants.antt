use Rattle.std.proofs.Common.{◌≡◌, ◌/◌, true, length, take}
use Rattle.std.specs.List.{list_all}
use Rattle.esa_params.specs.Sizes.{below}
use Rattle.esa_report.specs.Item.{kind_held}
use Rattle.esa_vault.specs.Filled.{bytes_at, suits}
use Rattle.esa_vault.proofs.filled.is_filled.Given as goal

-- the places before this one hold what may stand there
abbrev pub invariant-loop-place : goal.invariant-loop-place
invariant-loop-place l =
    list_all (λ place. suits l.count place (kind_held (bytes_at l.size l.text place))) (take l.place (below (length l.text / l.size))) ≡ true
