-- A database file has one spelling: what is read is what would be written, and what is written is read.
use Rattle.std.proofs.Common.{◌≡◌, ◌⊎◌, inl, inr, ℕ, zero, suc, ◌+◌, ◌<◌, ◌≤◌, Bool, true, false, cond, not, List, [], ◌∷◌, ◌++◌, length, take, drop, get_or, Option, Some, None, Result, Ok, Err, refl, sym, ap, subst, ◌∙◌, arith, append_assoc}
use Rattle.std.specs.Prelude.{nat_lt, nat_eq, ◌==◌, slice_index, flat_map, codes, IfOk, MatchResult, All}
use Rattle.std.specs.List.{starts_with}
use Rattle.std.specs.Int.{w32, to_be_bytes}
use Rattle.std.specs.Cmp.Lexicographic.{bytes_decides}
use Rattle.std.proofs.lemmas.List.{drop_more, drop-drop, take_at, drop_at, length-take-le, length-drop, length-append, take-append-drop, get_or-drop, nil_from_length}
use Rattle.std.proofs.lemmas.List.Elements.{All-cons, All-head, All-tail}
use Rattle.std.proofs.lemmas.Bool.Decides.{nat_tests}
use Rattle.esa_bytes.specs.Field.{u32_in}
use Rattle.esa_bytes.proofs.FieldLemmas.{u32_in-written}
use Rattle.esa_params.specs.declared.form.Form.{Form}
use Rattle.esa_params.specs.declared.form.Form.TheVariants.{One, Two}
use Rattle.esa_header.specs.Version.{version_byte, form_in}
use Rattle.esa_header.proofs.HeaderLaws.{AreBytes, field_u32, u32_in-fits, form_in-is, form_in-version_byte, first_passed, then_passed, same_number, no_test, not_below}
use Rattle.esa_analyser.specs.declared.refused.DbRefused.{DbRefused}
use Rattle.esa_analyser.specs.declared.refused.DbRefused.TheVariants.{Trailing, OutOfMemory}
use Rattle.esa_analyser.specs.Database.{Database, longest}
use Rattle.esa_analyser.specs.Stored.{Stored}
use Rattle.esa_analyser.specs.Rows.{row_bytes, front_bytes, database_bytes, is_above, AreRising, IsRow, IsDatabase}
use Rattle.esa_analyser.specs.Reading.{cut, row_length, row_value, row_count, front_row, row_refusal, before_rows, rows_in, stored_rows, stored_by_form, database_in}
use Rattle.esa_analyser.proofs.RowReading.{Passes, passes}

bytes-drop : (bytes : List ℕ) → AreBytes bytes → (n : ℕ) → AreBytes (drop n bytes)
bytes-drop bytes are n i = rw (get_or-drop n bytes i 0) (are (n + i))

places : (size : ℕ) → 1 + size + 4 ≡ 5 + size
places size = omega arith

first_byte : (rest : List ℕ) → 0 < length rest → rest ≡ slice_index rest 0 ∷ drop 1 rest
first_byte [] some = absurd (omega arith)
first_byte (x ∷ xs) some = refl

-- the row at the front, as it would be written
front-spelled : (most : ℕ) (before : Option (List ℕ)) (rest : List ℕ) → AreBytes rest → Passes most before rest → rest ≡ row_bytes (front_row rest) ++ drop (row_length rest) rest
front-spelled most before rest are row =
    let size = slice_index rest 0 in
    let value = row_value rest in
    let length_value : length value ≡ size = length-take-le size (drop 1 rest) (omega (arith, length-drop 1 rest, row.whole)) in
    let count : to_be_bytes w32 (row_count rest) ≡ take 4 (drop (1 + size) rest) = field_u32 rest are (1 + size) (omega (arith, row.whole)) in
    let behind : drop (1 + size) rest ≡ take 4 (drop (1 + size) rest) ++ drop (row_length rest) rest =
    sym (take-append-drop 4 (drop (1 + size) rest)) ∙ ap (λ ys. take 4 (drop (1 + size) rest) ++ ys) (drop-drop 4 (1 + size) rest ∙ ap (λ n. drop n rest) (places size)) in
    first_byte rest row.some
    ∙ ap (λ ys. size ∷ ys) (sym (take-append-drop size (drop 1 rest)))
    ∙ ap (λ ys. size ∷ (value ++ ys)) (drop-drop size 1 rest ∙ behind)
    ∙ ap (λ ys. size ∷ (value ++ (ys ++ drop (row_length rest) rest))) (sym count)
    ∙ ap (λ ys. size ∷ ys) (sym (append_assoc value (to_be_bytes w32 (row_count rest)) (drop (row_length rest) rest)))
    ∙ ap (λ n. n ∷ ((value ++ to_be_bytes w32 (row_count rest)) ++ drop (row_length rest) rest)) (sym length_value)

before_rows-ok : (row : List ℕ × ℕ) (refusal : Option DbRefused) (others : Result (List (List ℕ × ℕ)) DbRefused) (rows : List (List ℕ × ℕ)) → before_rows row refusal others ≡ Ok rows
    → (refusal ≡ None) × ((rest : List (List ℕ × ℕ)) × (others ≡ Ok rest) × (row ∷ rest ≡ rows))
before_rows-ok row (Some refused) others rows h = cc
before_rows-ok row None (Err refused) rows h = cc
before_rows-ok row None (Ok rest) rows h = (refl, (rest, refl, cc))

-- what rows that were read are
record AreRead (most number : ℕ) (before : Option (List ℕ)) (rest : List ℕ) (rows : List (List ℕ × ℕ)) : Type 0 where
  number_is : length rows ≡ number
  rising : AreRising before rows
  each : All (IsRow most) rows
  bytes : rest ≡ flat_map row_bytes rows

else_refused : {T E : Type 0} (b : Bool) (e : E) (x y : T) → cond b (Ok x) (Err e) ≡ Ok y → (b ≡ true) × (x ≡ y)
else_refused true e x y h = (refl, cc)
else_refused false e x y h = cc

front-is_row : (most : ℕ) (before : Option (List ℕ)) (rest : List ℕ) → AreBytes rest → Passes most before rest → IsRow most (front_row rest)
front-is_row most before rest are row =
    let size = slice_index rest 0 in
    let length_value : length (row_value rest) ≡ size = length-take-le size (drop 1 rest) (omega (arith, length-drop 1 rest, row.whole)) in
    record { short = omega (arith, row.short); counted = row.counted; fits = u32_in-fits rest are (1 + size) }

rows_in-spelled : (most have number row : ℕ) (before : Option (List ℕ)) (rest : List ℕ) → AreBytes rest → (rows : List (List ℕ × ℕ)) → rows_in most have number row before rest ≡ Ok rows → AreRead most number before rest rows
rows_in-spelled most have zero row before rest are rows h =
    let ends = else_refused (length rest == 0) Trailing [] rows h in
    let none : rest ≡ [] = nil_from_length rest (same_number _ _ ends.0) in
    subst (λ rows. AreRead most 0 before rest rows) ends.1 (record {
      number_is = refl;
      rising = tt;
      each = λ k d below. absurd (omega arith);
      bytes = none;
    })
rows_in-spelled most have (suc number) row before rest are rows h =
    let read = before_rows-ok (front_row rest) (row_refusal most have row before rest) _ rows h in
    let first = passes most have row before rest read.0 in
    let others = rows_in-spelled most have number (row + 1) (Some (row_value rest)) (drop (row_length rest) rest) (bytes-drop rest are (row_length rest)) read.1.0 read.1.1 in
    subst (λ rows. AreRead most (suc number) before rest rows) read.1.2 (record {
      number_is = ap suc others.number_is;
      rising = (first.above, others.rising);
      each = All-cons (IsRow most) (front_row rest) read.1.0 (front-is_row most before rest are first) others.each;
      bytes = front-spelled most before rest are first ∙ ap (λ ys. row_bytes (front_row rest) ++ ys) others.bytes;
    })

-- the header as it would be written: the magic, the version and two numbers
front_fields : (bytes : List ℕ) → 13 ≤ length bytes → bytes ≡ take 4 bytes ++ (get_or bytes 4 0 ∷ (take 4 (drop 5 bytes) ++ (take 4 (drop 9 bytes) ++ drop 13 bytes)))
front_fields bytes long =
    sym (take-append-drop 4 bytes)
    ∙ ap (λ ys. take 4 bytes ++ ys) (drop_more bytes 4 0 (omega arith))
    ∙ ap (λ ys. take 4 bytes ++ (get_or bytes 4 0 ∷ ys)) (sym (take-append-drop 4 (drop 5 bytes)))
    ∙ ap (λ ys. take 4 bytes ++ (get_or bytes 4 0 ∷ (take 4 (drop 5 bytes) ++ ys))) (drop-drop 4 5 bytes ∙ sym (take-append-drop 4 (drop 9 bytes)))
    ∙ ap (λ ys. take 4 bytes ++ (get_or bytes 4 0 ∷ (take 4 (drop 5 bytes) ++ (take 4 (drop 9 bytes) ++ ys)))) (drop-drop 4 9 bytes)

grouped : (m : List ℕ) (v : ℕ) (n u rest : List ℕ) → m ++ (v ∷ (n ++ (u ++ rest))) ≡ (m ++ (v ∷ (n ++ u))) ++ rest
grouped m v n u rest = simp append_assoc

whole-spelled : (bytes : List ℕ) → AreBytes bytes → (form : Form) (rows : List (List ℕ × ℕ)) → 13 ≤ length bytes → take 4 bytes ≡ codes "ESAD" → get_or bytes 4 0 ≡ version_byte form → length rows ≡ u32_in bytes 5 → drop 13 bytes ≡ flat_map row_bytes rows
    → bytes ≡ database_bytes form (record { rows = rows; unopened = u32_in bytes 9 })
whole-spelled bytes are form rows long begins version number behind =
    let numbered : to_be_bytes w32 (u32_in bytes 5) ≡ take 4 (drop 5 bytes) = field_u32 bytes are 5 (omega arith) in
    let unopened : to_be_bytes w32 (u32_in bytes 9) ≡ take 4 (drop 9 bytes) = field_u32 bytes are 9 (omega arith) in
    front_fields bytes long
    ∙ ap (λ ys. ys ++ (get_or bytes 4 0 ∷ (take 4 (drop 5 bytes) ++ (take 4 (drop 9 bytes) ++ drop 13 bytes)))) begins
    ∙ ap (λ v. codes "ESAD" ++ (v ∷ (take 4 (drop 5 bytes) ++ (take 4 (drop 9 bytes) ++ drop 13 bytes)))) version
    ∙ ap (λ ys. codes "ESAD" ++ (version_byte form ∷ (ys ++ (take 4 (drop 9 bytes) ++ drop 13 bytes)))) (sym numbered ∙ ap (to_be_bytes w32) (sym number))
    ∙ ap (λ ys. codes "ESAD" ++ (version_byte form ∷ (to_be_bytes w32 (length rows) ++ (ys ++ drop 13 bytes)))) (sym unopened)
    ∙ ap (λ ys. codes "ESAD" ++ (version_byte form ∷ (to_be_bytes w32 (length rows) ++ (to_be_bytes w32 (u32_in bytes 9) ++ ys)))) behind
    ∙ grouped (codes "ESAD") (version_byte form) (to_be_bytes w32 (length rows)) (to_be_bytes w32 (u32_in bytes 9)) (flat_map row_bytes rows)

-- the bytes are the file of what was read
abbrev pub IsFileOf : List ℕ → Stored → Type 0
IsFileOf bytes stored = IsDatabase stored.form stored.database × (bytes ≡ database_bytes stored.form stored.database)

stored_rows-ok : (form : Form) (unopened : ℕ) (r : Result (List (List ℕ × ℕ)) DbRefused) (stored : Stored) → stored_rows form unopened r ≡ Ok stored
    → (rows : List (List ℕ × ℕ)) × (r ≡ Ok rows) × (record { form = form; database = record { rows = rows; unopened = unopened } } ≡ stored)
stored_rows-ok form unopened (Err refused) stored h = cc
stored_rows-ok form unopened (Ok rows) stored h = (rows, refl, cc)

by_version : (bytes : List ℕ) → AreBytes bytes → 13 ≤ length bytes → take 4 bytes ≡ codes "ESAD" → (version : Option Form) → form_in (get_or bytes 4 0) ≡ version → (stored : Stored) → stored_by_form bytes version ≡ Ok stored → IsFileOf bytes stored
by_version bytes are long begins None version stored h = cc
by_version bytes are long begins (Some form) version stored h =
    let read = stored_rows-ok form (u32_in bytes 9) _ stored h in
    let rows = rows_in-spelled (longest form) (length bytes) (u32_in bytes 5) 0 None (drop 13 bytes) (bytes-drop bytes are 13) read.0 read.1 in
    subst (λ stored. IsFileOf bytes stored) read.2 (
      record {
        rising = rows.rising;
        rows = rows.each;
        number = omega (arith, rows.number_is, u32_in-fits bytes are 5);
        unopened = u32_in-fits bytes are 9;
      },
      whole-spelled bytes are form read.0 long begins (form_in-is _ form version) rows.number_is rows.bytes,
    )

pub database_in-spelled : (bytes : List ℕ) → AreBytes bytes → (stored : Stored) → database_in bytes ≡ Ok stored → IsFileOf bytes stored
database_in-spelled bytes are stored h =
    let long = first_passed (nat_lt (length bytes) 13) _ _ stored h in
    let begins = then_passed (starts_with nat_eq bytes (codes "ESAD")) _ _ stored long.1 in
    by_version bytes are (not_below _ _ long.0) (sym ((bytes_decides (codes "ESAD") (take 4 bytes)).0 begins.0)) (form_in (get_or bytes 4 0)) refl stored begins.1

one_plus : (n : ℕ) → suc n ≡ 1 + n
one_plus n = omega arith

number_apart : (a b : ℕ) → b < a → (a == b) ≡ false
number_apart a b h = grind (arith, nat_tests)

skip : {E : Type 0} (b : Bool) (e : E) (r : Option E) → b ≡ false → r ≡ None → cond b (Some e) r ≡ None
skip b e r passed rest = ap (λ b. cond b (Some e) r) passed ∙ rest

-- a row at the front, as it is read
module _ (most have row_number : ℕ) (before : Option (List ℕ)) (row : List ℕ × ℕ) (rest : List ℕ) (is : IsRow most row) (above : is_above before row.0 ≡ true) where
  value-front : row_value (row_bytes row ++ rest) ≡ row.0
  value-front = ap (take (length row.0)) (append_assoc row.0 (to_be_bytes w32 row.1) rest) ∙ take_at row.0 (to_be_bytes w32 row.1 ++ rest) (length row.0) refl

  count-front : row_count (row_bytes row ++ rest) ≡ row.1
  count-front =
      ap (λ ys. u32_in (length row.0 ∷ ys) (1 + length row.0)) (append_assoc row.0 (to_be_bytes w32 row.1) rest)
      ∙ u32_in-written (length row.0 ∷ row.0) rest (1 + length row.0) row.1 (one_plus (length row.0)) is.fits

  length-front : length (row_bytes row ++ rest) ≡ row_length (row_bytes row ++ rest) + length rest
  length-front = omega (arith, length-append (row_bytes row) rest, length-append row.0 (to_be_bytes w32 row.1))

  refusal-front : row_refusal most have row_number before (row_bytes row ++ rest) ≡ None
  refusal-front =
      let bytes = row_bytes row ++ rest in
      skip (length bytes == 0) _ _ (number_apart (length bytes) 0 (omega (arith, length-front)))
      (skip (nat_lt most (length row.0)) _ _ (no_test most (length row.0) is.short)
      (skip (nat_lt (length bytes) (row_length bytes)) _ _ (no_test (length bytes) (row_length bytes) (omega (arith, length-front)))
      (skip (not (is_above before (row_value bytes))) _ _ (ap (λ v. not (is_above before v)) value-front ∙ ap not above)
      (skip (row_count bytes == 0) _ _ (ap (λ n. n == 0) count-front ∙ number_apart row.1 0 is.counted) refl))))

  drop-front : drop (row_length (row_bytes row ++ rest)) (row_bytes row ++ rest) ≡ rest
  drop-front = drop_at (row_bytes row) rest (5 + length row.0) (omega (arith, length-append row.0 (to_be_bytes w32 row.1)))

rows_in-accepts : (most have row : ℕ) (before : Option (List ℕ)) (rows : List (List ℕ × ℕ)) → AreRising before rows → All (IsRow most) rows → rows_in most have (length rows) row before (flat_map row_bytes rows) ≡ Ok rows
rows_in-accepts most have row before [] rising each = refl
rows_in-accepts most have row before (first ∷ rows) rising each =
    let is : IsRow most first = All-head (IsRow most) first rows each in
    let rest = flat_map row_bytes rows in
    let bytes = row_bytes first ++ rest in
    let value : row_value bytes ≡ first.0 = value-front most have row before first rest is rising.0 in
    let count : row_count bytes ≡ first.1 = count-front most have row before first rest is rising.0 in
    let behind : drop (row_length bytes) bytes ≡ rest = drop-front most have row before first rest is rising.0 in
    ap (λ refusal. before_rows (front_row bytes) refusal (rows_in most have (length rows) (row + 1) (Some (row_value bytes)) (drop (row_length bytes) bytes))) (refusal-front most have row before first rest is rising.0)
    ∙ (λ i. before_rows (value i, count i) None (rows_in most have (length rows) (row + 1) (Some (value i)) (behind i)))
    ∙ ap (before_rows first None) (rows_in-accepts most have (row + 1) (Some first.0) rows rising.1 (All-tail (IsRow most) first rows each))

-- the header, as it is read
module _ (form : Form) (database : Database) (is : IsDatabase form database) where
  front_number : u32_in (database_bytes form database) 5 ≡ length database.rows
  front_number =
      let rest = flat_map row_bytes database.rows in
      let unopened = to_be_bytes w32 database.unopened in
      ap (λ ys. u32_in (codes "ESAD" ++ (version_byte form ∷ ys)) 5) (append_assoc (to_be_bytes w32 (length database.rows)) unopened rest)
      ∙ u32_in-written (codes "ESAD" ++ (version_byte form ∷ [])) (unopened ++ rest) 5 (length database.rows) refl is.number

  front_unopened : u32_in (database_bytes form database) 9 ≡ database.unopened
  front_unopened =
      let rest = flat_map row_bytes database.rows in
      let number = to_be_bytes w32 (length database.rows) in
      u32_in-written ((codes "ESAD" ++ (version_byte form ∷ [])) ++ number) rest 9 database.unopened refl is.unopened

  front_length : 13 ≤ length (database_bytes form database)
  front_length = omega (arith, length-append (front_bytes form (length database.rows) database.unopened) (flat_map row_bytes database.rows))

  pub database_in-accepts : database_in (database_bytes form database) ≡ Ok (record { form = form; database = database })
  database_in-accepts =
      let bytes = database_bytes form database in
      ap (λ b. cond b (Err (cut 13 (length bytes))) (stored_by_form bytes (form_in (version_byte form)))) (no_test (length bytes) 13 front_length)
      ∙ ap (stored_by_form bytes) (form_in-version_byte form)
      ∙ (λ i. stored_rows form (front_unopened i) (rows_in (longest form) (length bytes) (front_number i) 0 None (flat_map row_bytes database.rows)))
      ∙ ap (stored_rows form database.unopened) (rows_in-accepts (longest form) (length bytes) 0 None database.rows is.rising is.rows)

-- what an answer of the reader says
abbrev pub IsAnswer : List ℕ → Result Stored DbRefused → Type 0
IsAnswer bytes result = MatchResult result (λ stored. database_in bytes ≡ Ok stored) (λ refused. (refused ≡ OutOfMemory) ⊎ (database_in bytes ≡ Err refused))

pub answer-spelled : (bytes : List ℕ) → AreBytes bytes → (result : Result Stored DbRefused) → IsAnswer bytes result → IfOk result (IsFileOf bytes)
answer-spelled bytes are (Ok stored) answer = database_in-spelled bytes are stored answer
answer-spelled bytes are (Err refused) answer = tt

pub answer-accepts : (bytes : List ℕ) (form : Form) (database : Database) → IsDatabase form database → bytes ≡ database_bytes form database → (result : Result Stored DbRefused) → IsAnswer bytes result
    → MatchResult result (λ stored. stored ≡ record { form = form; database = database }) (λ refused. refused ≡ OutOfMemory)
answer-accepts bytes form database can is (Ok stored) answer =
    let accepted : database_in bytes ≡ Ok (record { form = form; database = database }) = ap database_in is ∙ database_in-accepts form database can in
    cc
answer-accepts bytes form database can is (Err refused) answer =
    let accepted : database_in bytes ≡ Ok (record { form = form; database = database }) = ap database_in is ∙ database_in-accepts form database can in
    elim answer [ inl want ↦ want | inr other ↦ cc ]

-- a database of either form can be written in form Two
pub short_for_two : (form : Form) (database : Database) → IsDatabase form database → All (λ row. length row.0 ≤ 190) database.rows
short_for_two One database is = λ k d below. let here = (is.rows k d below).short in omega arith
short_for_two Two database is = λ k d below. (is.rows k d below).short
