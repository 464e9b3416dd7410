-- The values of a database of either version fit into version 2.
use Rattle.std.proofs.Common.{ℕ, ◌≤◌, length, arith}
use Rattle.std.specs.List.{All}
use Rattle.std.proofs.lemmas.List.Elements.{All-weaker}
use Rattle.esa_params.specs.declared.form.Form.{Form}
use Rattle.esa_params.specs.declared.form.Form.TheVariants.{One, Two}
use Rattle.esa_analyser.specs.Database.{Database, longest}
use Rattle.esa_analyser.specs.Rows.{IsRow, IsDatabase}

longest_two : (form : Form) (n : ℕ) → n ≤ longest form → n ≤ longest Two
longest_two One n short = omega arith
longest_two Two n short = short

pub values_fit : (form : Form) (database : Database) → IsDatabase form database → All (λ row. length row.0 ≤ longest Two) database.rows
values_fit form database is = All-weaker (IsRow (longest form)) (λ row. length row.0 ≤ longest Two) (λ row fits. longest_two form (length row.0) fits.short) database.rows is.rows
