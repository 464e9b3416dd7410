-- A database with the form of its file.
use Rattle.esa_params.specs.declared.form.Form.{Form}
use Rattle.esa_analyser.specs.Database.{Database}

-- a database and the form that its file's version carries
pub record Stored : Type 0 where
  pub form : Form
  pub database : Database
