-- What was counted, and how it is kept.
use Rattle.esa_params.specs.declared.form.Form.{Form}
use Rattle.esa_analyser.specs.Database.{Database}
use Rattle.std.specs.Prelude.{ℕ}

-- the form of the envelopes, how many there may be, and the database of the last list
pub record Counted : Type 0 where
  pub form : Form
  pub room : ℕ
  pub database : Database
