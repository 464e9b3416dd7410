-- The file of the database that is kept.
use Rattle.std.specs.Prelude.{ℕ, List}
use Rattle.esa_analyser.specs.declared.kept.Kept.{Kept}
use Rattle.esa_analyser.specs.Database.{rows_of}
use Rattle.esa_analyser.specs.Rows.{database_bytes}
use Rattle.esa_analyser.specs.Kept.{form_of, values_of}

-- the rows of the kept values, and so many envelopes that gave none
abbrev pub kept_bytes : Kept → ℕ → List ℕ
kept_bytes kept unopened = database_bytes (form_of kept) (record { rows = rows_of (values_of kept); unopened = unopened })
