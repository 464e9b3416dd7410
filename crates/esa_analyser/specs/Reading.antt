-- What a database file says, or the first test that it fails.
use Rattle.std.specs.Prelude.{ℕ, zero, suc, ◌+◌, ◌-◌, ◌≤◌, ◌==◌, nat_lt, nat_eq, not, if◌then◌else◌, List, [], ◌∷◌, length, take, drop, slice_index, codes, Option, Some, None, Result, Ok, Err, All}
use Rattle.std.specs.List.{starts_with}
use Rattle.esa_bytes.specs.Field.{u32_in}
use Rattle.esa_params.specs.declared.form.Form.{Form}
use Rattle.esa_header.specs.Version.{form_in}
use Rattle.esa_analyser.specs.declared.refused.DbRefused.{DbRefused}
use Rattle.esa_analyser.specs.declared.refused.DbRefused.TheVariants.{Cut, BadMagic, BadVersion, BadLength, Unsorted, ZeroCount, Trailing}
use Rattle.esa_analyser.specs.Database.{longest}
use Rattle.esa_analyser.specs.Rows.{is_above}
use Rattle.esa_analyser.specs.Stored.{Stored}

abbrev pub cut : ℕ → ℕ → DbRefused
cut want have = Cut (record { want = want; have = have })

-- the length of the row at the front of the bytes: its length byte, its value and its count
abbrev pub row_length : List ℕ → ℕ
row_length rest = 5 + slice_index rest 0

abbrev pub row_value : List ℕ → List ℕ
row_value rest = take (slice_index rest 0) (drop 1 rest)

abbrev pub row_count : List ℕ → ℕ
row_count rest = u32_in rest (1 + slice_index rest 0)

-- the row at the front of the bytes
abbrev pub front_row : List ℕ → List ℕ × ℕ
front_row rest = (row_value rest, row_count rest)

-- the first test that the row at the front of the rest of a file of `have` bytes fails
abbrev pub row_refusal : ℕ → ℕ → ℕ → Option (List ℕ) → List ℕ → Option DbRefused
row_refusal longest have row before rest =
    if length rest == 0 then Some (cut (have - length rest + 1) have)
    else if nat_lt longest (slice_index rest 0) then Some (BadLength row)
    else if nat_lt (length rest) (row_length rest) then Some (cut (have - length rest + row_length rest) have)
    else if not (is_above before (row_value rest)) then Some (Unsorted row)
    else if row_count rest == 0 then Some (ZeroCount row) else None

abbrev pub before_rows : List ℕ × ℕ → Option DbRefused → Result (List (List ℕ × ℕ)) DbRefused → Result (List (List ℕ × ℕ)) DbRefused
before_rows row (Some refused) others = Err refused
before_rows row None (Err refused) = Err refused
before_rows row None (Ok rows) = Ok (row ∷ rows)

-- so many rows and no byte more, in the rest of a file of `have` bytes: from row `row` on, behind the value `before`
abbrev pub rows_in : ℕ → ℕ → ℕ → ℕ → Option (List ℕ) → List ℕ → Result (List (List ℕ × ℕ)) DbRefused
rows_in longest have zero row before rest = if length rest == 0 then Ok [] else Err Trailing
rows_in longest have (suc number) row before rest =
    before_rows (front_row rest) (row_refusal longest have row before rest)
    (rows_in longest have number (row + 1) (Some (row_value rest)) (drop (row_length rest) rest))

abbrev pub stored_rows : Form → ℕ → Result (List (List ℕ × ℕ)) DbRefused → Result Stored DbRefused
stored_rows form unopened (Err refused) = Err refused
stored_rows form unopened (Ok rows) = Ok (record { form = form; database = record { rows = rows; unopened = unopened } })

abbrev pub stored_by_form : List ℕ → Option Form → Result Stored DbRefused
stored_by_form bytes None = Err BadVersion
stored_by_form bytes (Some form) =
    stored_rows form (u32_in bytes 9) (rows_in (longest form) (length bytes) (u32_in bytes 5) 0 None (drop 13 bytes))

-- what a database file says, or the first test that it fails
abbrev pub database_in : List ℕ → Result Stored DbRefused
database_in bytes =
    if nat_lt (length bytes) 13 then Err (cut 13 (length bytes))
    else if starts_with nat_eq bytes (codes "ESAD") then stored_by_form bytes (form_in (slice_index bytes 4)) else Err BadMagic

-- the row that starts at a place of the file
abbrev pub row_at : List ℕ → ℕ → List ℕ × ℕ
row_at bytes start = front_row (drop start bytes)

-- each row lies inside of the file
abbrev pub RowsInside : List ℕ → List ℕ → Type 0
RowsInside bytes starts = All (λ start. start + row_length (drop start bytes) ≤ length bytes) starts
