-- Databases: how often each value was reported.
use Rattle.std.specs.Prelude.{ℕ, ◌-◌, List}
use Rattle.std.specs.Ordering.{nat_cmp}
use Rattle.std.specs.Cmp.Lexicographic.{slice_cmp}
use Rattle.std.specs.FinMap as finite
use Rattle.esa_lists.specs.Tally.{tally}
use Rattle.esa_params.specs.declared.form.Form.{Form}
use Rattle.esa_params.specs.Form.{report_length}

-- values, each with how often it was reported, and the number of envelopes that gave none
pub record Database : Type 0 where
  pub rows : List (List ℕ × ℕ)
  pub unopened : ℕ

-- the values of a list, rising as bytes, each with how often it stands there
abbrev pub rows_of : List (List ℕ) → List (List ℕ × ℕ)
rows_of values = finite.entries (tally (slice_cmp nat_cmp) values)

-- a report has the value's length in two bytes, and the value
abbrev pub longest : Form → ℕ
longest form = report_length form - 2
