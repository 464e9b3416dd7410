-- The rows of a database file, read one after another.
use Rattle.std.proofs.Common.{◌≡◌, ℕ, suc, ◌+◌, ◌-◌, ◌<◌, ◌≤◌, Bool, true, false, cond, not, List, [], ◌∷◌, ◌++◌, length, take, drop, map, Option, Some, None, Result, Ok, Err, refl, sym, ap, ◌∙◌, arith, append_assoc}
use Rattle.std.specs.Prelude.{nat_lt, ◌==◌, slice_index, slice_range}
use Rattle.std.proofs.lemmas.List.{drop-drop, map_push}
use Rattle.std.proofs.lemmas.Bool.Decides.{nat_tests}
use Rattle.esa_analyser.specs.declared.refused.DbRefused.{DbRefused}
use Rattle.esa_analyser.specs.declared.refused.DbRefused.TheVariants.{Trailing}
use Rattle.esa_analyser.specs.Rows.{is_above}
use Rattle.esa_analyser.specs.Reading.{row_length, row_value, row_count, row_refusal, before_rows, rows_in, row_at}

-- a row that passes all tests
pub record Passes (longest : ℕ) (before : Option (List ℕ)) (rest : List ℕ) : Type 0 where
  pub some : 0 < length rest
  pub short : slice_index rest 0 ≤ longest
  pub whole : row_length rest ≤ length rest
  pub above : is_above before (row_value rest) ≡ true
  pub counted : 0 < row_count rest

none_passed : {E : Type 0} (b : Bool) (e : E) (r : Option E) → cond b (Some e) r ≡ None → (b ≡ false) × (r ≡ None)
none_passed true e r h = cc
none_passed false e r h = (refl, h)

not_zero : (n : ℕ) → (n == 0) ≡ false → 0 < n
not_zero n h = grind (arith, nat_tests)

not_below : (a b : ℕ) → nat_lt a b ≡ false → b ≤ a
not_below a b h = grind (arith, nat_tests)

not_not : (b : Bool) → not b ≡ false → b ≡ true
not_not true h = refl
not_not false h = cc

pub passes : (longest have row : ℕ) (before : Option (List ℕ)) (rest : List ℕ) → row_refusal longest have row before rest ≡ None → Passes longest before rest
passes longest have row before rest h =
    let some = none_passed (length rest == 0) _ _ h in
    let short = none_passed (nat_lt longest (slice_index rest 0)) _ _ some.1 in
    let whole = none_passed (nat_lt (length rest) (row_length rest)) _ _ short.1 in
    let above = none_passed (not (is_above before (row_value rest))) _ _ whole.1 in
    let counted = none_passed (row_count rest == 0) _ _ above.1 in
    record {
      some = not_zero _ some.0;
      short = not_below _ _ short.0;
      whole = not_below _ _ whole.0;
      above = not_not _ above.0;
      counted = not_zero _ counted.0;
    }

-- rows, and then what was read behind them
abbrev pub after_rows : List (List ℕ × ℕ) → Result (List (List ℕ × ℕ)) DbRefused → Result (List (List ℕ × ℕ)) DbRefused
after_rows rows (Ok more) = Ok (rows ++ more)
after_rows rows (Err refused) = Err refused

pub after_none : (r : Result (List (List ℕ × ℕ)) DbRefused) → r ≡ after_rows [] r
after_none (Ok more) = refl
after_none (Err refused) = refl

after_one : (rows : List (List ℕ × ℕ)) (row : List ℕ × ℕ) (r : Result (List (List ℕ × ℕ)) DbRefused) → after_rows rows (before_rows row None r) ≡ after_rows (rows ++ row ∷ []) r
after_one rows row (Ok more) = ap Ok (sym (append_assoc rows (row ∷ []) more))
after_one rows row (Err refused) = refl

one_less : (number row : ℕ) → row < number → number - row ≡ suc (number - (row + 1))
one_less number row below = omega arith

-- what was read so far, and what is left to read
abbrev pub Reads : ℕ → List ℕ → ℕ → List ℕ → ℕ → Option (List ℕ) → ℕ → Type 0
Reads longest bytes number starts row before start =
    rows_in longest (length bytes) number 0 None (drop 13 bytes)
    ≡ after_rows (map (row_at bytes) starts) (rows_in longest (length bytes) (number - row) row before (drop start bytes))

pub reads_none : (longest : ℕ) (bytes : List ℕ) (number : ℕ) → Reads longest bytes number [] 0 None 13
reads_none longest bytes number =
    let all : number ≡ number - 0 = omega arith in
    after_none _ ∙ ap (λ n. after_rows [] (rows_in longest (length bytes) n 0 None (drop 13 bytes))) all

-- the row at the place, where there are further rows
row_next : (longest : ℕ) (bytes : List ℕ) (number row : ℕ) (before : Option (List ℕ)) (start : ℕ) → row < number
    → rows_in longest (length bytes) (number - row) row before (drop start bytes)
    ≡ before_rows (row_at bytes start) (row_refusal longest (length bytes) row before (drop start bytes))
    (rows_in longest (length bytes) (number - (row + 1)) (row + 1) (Some (row_value (drop start bytes))) (drop (start + row_length (drop start bytes)) bytes))
row_next longest bytes number row before start below =
    ap (λ n. rows_in longest (length bytes) n row before (drop start bytes)) (one_less number row below)
    ∙ ap (λ rest. before_rows (row_at bytes start) (row_refusal longest (length bytes) row before (drop start bytes)) (rows_in longest (length bytes) (number - (row + 1)) (row + 1) (Some (row_value (drop start bytes))) rest)) (drop-drop (row_length (drop start bytes)) start bytes)

pub reads_more : (longest : ℕ) (bytes : List ℕ) (number : ℕ) (starts : List ℕ) (row : ℕ) (before : Option (List ℕ)) (start : ℕ) → row < number → row_refusal longest (length bytes) row before (drop start bytes) ≡ None → Reads longest bytes number starts row before start
    → Reads longest bytes number (starts ++ start ∷ []) (row + 1) (Some (row_value (drop start bytes))) (start + row_length (drop start bytes))
reads_more longest bytes number starts row before start below none so_far =
    let others = rows_in longest (length bytes) (number - (row + 1)) (row + 1) (Some (row_value (drop start bytes))) (drop (start + row_length (drop start bytes)) bytes) in
    so_far
    ∙ ap (after_rows (map (row_at bytes) starts)) (row_next longest bytes number row before start below ∙ ap (λ refusal. before_rows (row_at bytes start) refusal others) none)
    ∙ after_one (map (row_at bytes) starts) (row_at bytes start) others
    ∙ ap (λ rows. after_rows rows others) (sym (map_push (row_at bytes) starts start))

pub reads_refused : (longest : ℕ) (bytes : List ℕ) (number : ℕ) (starts : List ℕ) (row : ℕ) (before : Option (List ℕ)) (start : ℕ) (refused : DbRefused) → row < number → row_refusal longest (length bytes) row before (drop start bytes) ≡ Some refused → Reads longest bytes number starts row before start
    → rows_in longest (length bytes) number 0 None (drop 13 bytes) ≡ Err refused
reads_refused longest bytes number starts row before start refused below is so_far =
    let others = rows_in longest (length bytes) (number - (row + 1)) (row + 1) (Some (row_value (drop start bytes))) (drop (start + row_length (drop start bytes)) bytes) in
    so_far
    ∙ ap (after_rows (map (row_at bytes) starts)) (row_next longest bytes number row before start below ∙ ap (λ refusal. before_rows (row_at bytes start) refusal others) is)

-- behind the last row
pub reads_end : (longest : ℕ) (bytes : List ℕ) (number : ℕ) (starts : List ℕ) (row : ℕ) (before : Option (List ℕ)) (start : ℕ) → number ≤ row → Reads longest bytes number starts row before start
    → rows_in longest (length bytes) number 0 None (drop 13 bytes) ≡ after_rows (map (row_at bytes) starts) (cond (length (drop start bytes) == 0) (Ok []) (Err Trailing))
reads_end longest bytes number starts row before start all so_far =
    let none : number - row ≡ 0 = omega arith in
    so_far ∙ ap (λ n. after_rows (map (row_at bytes) starts) (rows_in longest (length bytes) n row before (drop start bytes))) none

-- the value of the row that starts at a place
pub value_between : (bytes : List ℕ) (start end : ℕ) → end ≡ start + row_length (drop start bytes) → slice_range bytes (start + 1) (end - 4) ≡ row_value (drop start bytes)
value_between bytes start end is =
    let size : end - 4 - (start + 1) ≡ slice_index (drop start bytes) 0 = omega arith in
    (λ i. take (size i) (drop (start + 1) bytes)) ∙ ap (take (slice_index (drop start bytes) 0)) (sym (drop-drop 1 start bytes))

-- the same of what is equal
pub reads_as : (longest : ℕ) (bytes : List ℕ) (number row : ℕ) (starts starts' value value' : List ℕ) (start start' : ℕ) → starts' ≡ starts → value' ≡ value → start' ≡ start
    → Reads longest bytes number starts row (Some value) start → Reads longest bytes number starts' row (Some value') start'
reads_as longest bytes number row starts starts' value value' start start' same_starts same_value same_start read = rw (same_starts, same_value, same_start) read
