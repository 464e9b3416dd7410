use Rattle.std.proofs.Common.{◌≡◌, ◌+◌, ◌*◌, ◌≤◌, [], ◌∷◌, ◌++◌, length, take}
use Rattle.std.specs.Prelude.{flat_map}
use Rattle.esa_analysing.specs.RowText.{placed, shown}
use Rattle.esa_analysing.proofs.row_line.RowLine.of_row.Given as goal

abbrev pub invariant-loop-byte : goal.invariant-loop-byte
invariant-loop-byte l =
    (l.line ≡ placed l.fn.count ++ 32 ∷ [] ++ flat_map shown (take l.byte-index l.value)) × (length l.line ≤ 31 + 4 * l.byte-index)
