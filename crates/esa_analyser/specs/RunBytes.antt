-- The bytes of the rows of sorted keys.
use Rattle.std.specs.Prelude.{ℕ, List, map, flat_map}
use Rattle.std.specs.Ordering.{nat_cmp}
use Rattle.std.specs.Cmp.Lexicographic.{slice_cmp}
use Rattle.esa_lists.specs.Tally.{runs}
use Rattle.esa_analyser.specs.Rows.{row_bytes}
use Rattle.esa_analyser.specs.SortKey.{row_of}

-- each run of equal keys as a row
abbrev pub run_bytes : List (List ℕ) → List ℕ
run_bytes keys = flat_map row_bytes (map row_of (runs (slice_cmp nat_cmp) keys))
