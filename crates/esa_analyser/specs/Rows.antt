-- The bytes of a database.
use Rattle.std.specs.Prelude.{◌≡◌, ℕ, ◌<◌, ◌≤◌, ◌^◌, Bool, true, List, [], ◌∷◌, ◌++◌, length, flat_map, codes, Option, Some, None, All}
use Rattle.std.specs.Int.{w32, to_be_bytes}
use Rattle.std.specs.Ordering.{nat_cmp, is_lt}
use Rattle.std.specs.Cmp.Lexicographic.{slice_cmp}
use Rattle.esa_params.specs.declared.form.Form.{Form}
use Rattle.esa_header.specs.Version.{version_byte}
use Rattle.esa_analyser.specs.Database.{Database, longest}

-- the value's length in one byte, the value, and its count
abbrev pub row_bytes : List ℕ × ℕ → List ℕ
row_bytes row = length row.0 ∷ (row.0 ++ to_be_bytes w32 row.1)

-- the magic, the version, the number of rows and the number of unopened envelopes
abbrev pub front_bytes : Form → ℕ → ℕ → List ℕ
front_bytes form rows unopened = codes "ESAD" ++ (version_byte form ∷ (to_be_bytes w32 rows ++ to_be_bytes w32 unopened))

-- the file of a database, in the version of the form
abbrev pub database_bytes : Form → Database → List ℕ
database_bytes form database = front_bytes form (length database.rows) database.unopened ++ flat_map row_bytes database.rows

-- a value is above the one before it, if there is one
abbrev pub is_above : Option (List ℕ) → List ℕ → Bool
is_above None value = true
is_above (Some before) value = is_lt (slice_cmp nat_cmp before value)

-- each value is above the one before it
abbrev pub AreRising : Option (List ℕ) → List (List ℕ × ℕ) → Type 0
AreRising before [] = Unit {0}
AreRising before (row ∷ rows) = (is_above before row.0 ≡ true) × AreRising (Some row.0) rows

-- a value that is not too long, and a count from 1 on
pub record IsRow (most : ℕ) (row : List ℕ × ℕ) : Type 0 where
  pub short : length row.0 ≤ most
  pub counted : 0 < row.1
  pub fits : row.1 < 2 ^ 32

-- what a file of the form can hold
pub record IsDatabase (form : Form) (database : Database) : Type 0 where
  pub rising : AreRising None database.rows
  pub rows : All (IsRow (longest form)) database.rows
  pub number : length database.rows < 2 ^ 32
  pub unopened : database.unopened < 2 ^ 32
