-- A table with one row more, or one record more that has none.
use Rattle.std.proofs.Common.{◌≡◌, ℕ, zero, suc, ◌+◌, ◌<◌, ◌≤◌, List, [], ◌∷◌, ◌++◌, length, take, drop, ap, ◌∙◌, arith, append-nil}
use Rattle.std.specs.Prelude.{All}
use Rattle.std.proofs.lemmas.List.{map-append, length-map, drop_all, take_all}
use Rattle.std.proofs.lemmas.List.Elements.{All-append, All-cons}
use Rattle.esa_params.specs.declared.form.Form.{Form}
use Rattle.esa_crowds.specs.declared.row.Row.{Row}
use Rattle.esa_crowds.specs.Entries.{Entry}
use Rattle.esa_crowds.specs.Rows.{IsPadded, RiseWithin, entries_in, entry_row, row_at}

pub RiseWithin-length : (low high : ℕ) (list : List Entry) → RiseWithin low high list → low + length list ≤ high
RiseWithin-length low high [] rise = omega (arith, rise)
RiseWithin-length low high (e ∷ list) rise = let rest = RiseWithin-length (suc e.position) high list rise.1 in omega (arith, rest, rise.0)

pub RiseWithin-higher : (low high higher : ℕ) (list : List Entry) → high ≤ higher → RiseWithin low high list → RiseWithin low higher list
RiseWithin-higher low high higher [] fits rise = omega (arith, rise)
RiseWithin-higher low high higher (e ∷ list) fits rise = (rise.0, RiseWithin-higher (suc e.position) high higher list fits rise.1)

pub RiseWithin-push : (low high : ℕ) (list : List Entry) (e : Entry) → e.position ≡ high → RiseWithin low high list → RiseWithin low (high + 1) (list ++ e ∷ [])
RiseWithin-push low high [] e last rise = (omega (arith, rise, last), omega (arith, last))
RiseWithin-push low high (x ∷ list) e last rise = (rise.0, RiseWithin-push (suc x.position) high list e last rise.1)

pub entries-push : (form : Form) (rows : List Row) (row : Row) → entries_in form (rows ++ row ∷ []) ≡ entries_in form rows ++ entry_row form row ∷ []
entries-push form rows row = map-append (entry_row form) rows (row ∷ [])

pub rows_fit : (form : Form) (low high : ℕ) (rows : List Row) → RiseWithin low high (entries_in form rows) → low + length rows ≤ high
rows_fit form low high rows rise = let many = RiseWithin-length low high (entries_in form rows) rise in omega (arith, many, length-map rows (entry_row form))

pub All-push : (form : Form) (rows : List Row) (row : Row) → All (IsPadded form) rows → IsPadded form row → All (IsPadded form) (rows ++ row ∷ [])
All-push form rows row all padded = All-append (IsPadded form) rows (row ∷ []) all (All-cons (IsPadded form) row [] padded (λ k d below. absurd (omega arith)))

-- each row's position is one of the marks
pub positions_below : (form : Form) (low high : ℕ) (rows : List Row) → RiseWithin low high (entries_in form rows) → (place : ℕ) → place < length rows → (row_at rows place).position < high
positions_below form low high [] rise place below = absurd (omega arith)
positions_below form low high (row ∷ rows) rise zero below = let rest = rows_fit form (suc row.position) high rows rise.1 in omega (arith, rest)
positions_below form low high (row ∷ rows) rise (suc place) below = positions_below form (suc row.position) high rows rise.1 place (omega arith)

-- what a slice of the whole of a list leaves in it
pub written_back : {X : Type 0} (n : ℕ) (new old : List X) → n ≡ length old → length new ≡ length old → take n (new ++ drop (length new) old) ≡ new
written_back n new old all same =
    let none : drop (length new) old ≡ [] = drop_all (length new) old (omega (arith, same)) in
    ap (λ rest. take n (new ++ rest)) none ∙ ap (take n) (append-nil new) ∙ take_all n new (omega (arith, all, same))
