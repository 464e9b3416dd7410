-- What a table holds.
use Rattle.std.specs.Prelude.{ℕ, Bool, List}
use Rattle.esa_params.specs.declared.form.Form.{Form}
use Rattle.esa_crowds.specs.Entries.{Entry}

-- the form of the records, how many there may be, how many were looked at, the entries of the real ones among them, and
-- for each position whether its record is kept
pub record Gathered : Type 0 where
  pub form : Form
  pub room : ℕ
  pub next : ℕ
  pub entries : List Entry
  pub kept : List Bool
