-- The rows of a table, and the order in which they are looked at.
use Rattle.std.specs.Prelude.{◌≡◌, ℕ, suc, ◌-◌, ◌==◌, ◌≤◌, Bool, ◌&&◌, List, [], ◌∷◌, length, take, drop, map, replicate, slice_get, slice_index_or}
use Rattle.std.specs.List.{list_any}
use Rattle.std.specs.declared.cmp.Ordering.{Ordering}
use Rattle.std.specs.Ordering.{nat_cmp, ordering_then}
use Rattle.std.specs.Option.{option_cmp}
use Rattle.esa_params.specs.declared.form.Form.{Form}
use Rattle.esa_params.specs.Form.{inner_length}
use Rattle.esa_crowds.specs.declared.row.Row.{Row}
use Rattle.esa_crowds.specs.Entries.{Entry}
use Rattle.esa_crowds.specs.Kept.{by_bytes, by_key, is_kept}

-- the entry of a row
abbrev pub entry_row : Form → Row → Entry
entry_row form row =
    record { crowd = row.crowd; tag = row.tag; inner = take (inner_length form) row.inner; position = row.position }

-- the inner envelope is followed by zero bytes up to the longest one
abbrev pub IsPadded : Form → Row → Type 0
IsPadded form row = (length row.inner ≡ 232) × (drop (inner_length form) row.inner ≡ replicate (232 - inner_length form) 0)

-- the order of entries: crowd by crowd
abbrev pub by_crowd : Entry → Entry → Ordering
by_crowd one other = ordering_then (by_bytes one.crowd other.crowd) (by_key one other)

-- the same of rows
abbrev pub by_row : Row → Row → Ordering
by_row one other =
    ordering_then (by_bytes one.crowd other.crowd)
    (ordering_then (by_bytes one.tag other.tag) (ordering_then (by_bytes one.inner other.inner) (nat_cmp one.position other.position)))

-- the same of the rows at two places
abbrev pub by_place : List Row → ℕ → ℕ → Ordering
by_place rows one other = option_cmp by_row (slice_get rows one) (slice_get rows other)

-- the row at a place
abbrev pub blank : Row
blank = record { crowd = []; tag = []; inner = []; position = 0 }

abbrev pub row_at : List Row → ℕ → Row
row_at rows place = slice_index_or rows place blank

-- the entry of the row at a place
abbrev pub entry_at : Form → List Row → ℕ → Entry
entry_at form rows place = entry_row form (row_at rows place)

-- the entries of rows, and of those at some places
abbrev pub entries_in : Form → List Row → List Entry
entries_in form rows = map (entry_row form) rows

abbrev pub picked : Form → List Row → List ℕ → List Entry
picked form rows places = map (entry_at form rows) places

-- the positions rise, from the lower number up to below the higher one
abbrev pub RiseWithin : ℕ → ℕ → List Entry → Type 0
RiseWithin low high [] = low ≤ high
RiseWithin low high (entry ∷ list) = (low ≤ entry.position) × RiseWithin (suc entry.position) high list

-- one of some entries stands at the position
abbrev pub stands_at : ℕ → List Entry → Bool
stands_at position list = list_any (λ (entry : Entry). entry.position == position) list

-- one of some entries stands at the position, and is kept in a list
abbrev pub kept_among : (List ℕ → ℕ) → ℕ → List Entry → ℕ → List Entry → Bool
kept_among dropped t list position some = list_any (λ (entry : Entry). entry.position == position && is_kept dropped t list entry) some

-- the entry at the position is kept
abbrev pub kept_at : (List ℕ → ℕ) → ℕ → List Entry → ℕ → Bool
kept_at dropped t list position = kept_among dropped t list position list
