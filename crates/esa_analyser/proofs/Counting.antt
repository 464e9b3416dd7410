-- What was counted is the database of the list, whatever its order.
use Rattle.std.proofs.Common.{◌≡◌, ℕ, suc, zero, ◌+◌, ◌-◌, ◌*◌, ◌/◌, false, cond, List, [], ◌∷◌, length, map, Option, Some, None, refl, sym, ap, subst, ◌∙◌, arith}
use Rattle.std.specs.Prelude.{filter_map, bytes_eq, count_by, unwrap_or}
use Rattle.std.specs.List.{concat, cons_option, sum_by}
use Rattle.std.specs.List.Sorted.{IsSorted, IsPermutation}
use Rattle.std.specs.Option.{is_some, option_map_or}
use Rattle.std.specs.FinMap as finite
use Rattle.std.proofs.lemmas.Cmp.{nat_list_cmp_total}
use Rattle.std.proofs.lemmas.List.Sums.{sum_by-cons}
use Rattle.std.proofs.lemmas.List.Sorted.{sum_by-IsPermutation, length_permutation}
use Rattle.esa_params.specs.declared.form.Form.{Form}
use Rattle.esa_params.specs.declared.form.Form.TheVariants.{One, Two}
use Rattle.esa_params.specs.Form.{inner_length}
use Rattle.esa_envelope.specs.declared.keys.Keys.{Keys}
use Rattle.esa_header.specs.Pieces.{pieces, HaveLength}
use Rattle.esa_header.proofs.PieceLaws.{pieces-concat, length-concat}
use Rattle.esa_lists.specs.Tally.{times, tally}
use Rattle.esa_lists.proofs.FilesLaws.{names_apart}
use Rattle.esa_lists.proofs.OrderedLaws.{times-cons}
use Rattle.esa_lists.proofs.TallyLaws.{entry_of, get-tally, tally-counts}
use Rattle.esa_lists.proofs.RunsLaws.{runs-nil}
use Rattle.esa_analyser.specs.declared.kept.Kept.{Kept}
use Rattle.esa_analyser.specs.Database.{rows_of}
use Rattle.esa_analyser.specs.Opened.{reported, gives, database_of, count_in}
use Rattle.esa_analyser.specs.SortKey.{key_value, row_of}
use Rattle.esa_analyser.specs.Kept.{keys_of, form_of, capacity_of, values_of, AreRepeated}
use Rattle.esa_analyser.specs.Counted.{Counted}
use Rattle.esa_analyser.specs.Inside.{counted_in, IsCounted}
use Rattle.esa_analyser.proofs.KeyRuns.{by_bytes, rows_of-keys, bytes_tie}

rows_of-nil : rows_of [] ≡ []
rows_of-nil = rows_of-keys 64 [] (λ k d below. absurd (omega arith)) (λ k d low below. absurd (omega arith)) ∙ ap (map row_of) (runs-nil by_bytes)

-- where nothing is kept
pub IsCounted-empty : (kept : Kept) (room : ℕ) → AreRepeated kept → keys_of kept ≡ [] → capacity_of kept ≡ room → IsCounted (record { kept = kept; total = 0; rows = 0; room = room })
IsCounted-empty kept room each none capacity = record {
  sorted = record {
    each = each;
    order = subst (IsSorted by_bytes) (sym none) (λ k d low below. absurd (omega arith));
  };
  rows = sym (ap (λ keys. length (rows_of (map key_value keys))) none ∙ ap length rows_of-nil);
  few = omega (arith, ap length none);
  small = omega arith;
  within = omega arith;
  room = omega arith;
}

pub counted_in-empty : (kept : Kept) (form : Form) (room : ℕ) → form_of kept ≡ form → keys_of kept ≡ [] → counted_in (record { kept = kept; total = 0; rows = 0; room = room }) ≡ record { form = form; room = room; database = record { rows = []; unopened = 0 } }
counted_in-empty kept form room is none =
    let rows : rows_of (values_of kept) ≡ [] = ap (λ keys. rows_of (map key_value keys)) none ∙ rows_of-nil in
    let others : 0 - length (keys_of kept) ≡ 0 = omega arith in
    λ i. record { form = is i; room = room; database = record { rows = rows i; unopened = others i } }

whole_number : (form : Form) (n total : ℕ) → total ≡ inner_length form * n → total / inner_length form ≡ n
whole_number One n total whole = omega arith
whole_number Two n total whole = omega arith

-- what was counted is the database of the envelopes
pub counted_in-list : (inner : Keys) (old new : Kept) (size number rows room : ℕ) (envelopes : List ℕ) (list : List (List ℕ)) → size ≡ inner_length (form_of old) → number ≡ length envelopes / size
    → HaveLength (inner_length (form_of old)) list → envelopes ≡ concat list → form_of new ≡ form_of old
    → rows_of (values_of new) ≡ rows_of (filter_map (reported inner) (pieces (inner_length (form_of old)) number envelopes))
    → length (keys_of new) ≡ length (filter_map (reported inner) (pieces (inner_length (form_of old)) number envelopes))
    → counted_in (record { kept = new; total = number; rows = rows; room = room }) ≡ record { form = form_of old; room = room; database = database_of inner list }
counted_in-list inner old new size number rows room envelopes list size_is number_is have joined form rows_are number_kept =
    let long : length envelopes ≡ inner_length (form_of old) * length list = ap length joined ∙ length-concat (inner_length (form_of old)) list have in
    let all : number ≡ length list = number_is ∙ ap (λ n. length envelopes / n) size_is ∙ whole_number (form_of old) (length list) (length envelopes) long in
    let cut : pieces (inner_length (form_of old)) number envelopes ≡ list =
    (λ i. pieces (inner_length (form_of old)) (all i) (joined i)) ∙ pieces-concat (inner_length (form_of old)) list have in
    let values : rows_of (values_of new) ≡ rows_of (filter_map (reported inner) list) = rows_are ∙ ap (λ xs. rows_of (filter_map (reported inner) xs)) cut in
    let kept : length (keys_of new) ≡ length (filter_map (reported inner) list) = number_kept ∙ ap (λ xs. length (filter_map (reported inner) xs)) cut in
    λ i. record { form = form i; room = room; database = record { rows = values i; unopened = all i - kept i } }

plus_none : (n : ℕ) → 0 + n ≡ n
plus_none n = omega arith

-- how often a value stands among what a list gives
times-filter_map : {X : Type 0} (given : X → Option (List ℕ)) (value : List ℕ) (xs : List X) → times by_bytes value (filter_map given xs) ≡ sum_by (λ x. cond (option_map_or (λ v. bytes_eq v value) (given x) false) 1 0) xs
times-filter_map given value [] = refl
times-filter_map given value (x ∷ xs) =
    step (given x)
    ∙ ap (λ n. cond (option_map_or (λ v. bytes_eq v value) (given x) false) 1 0 + n) (times-filter_map given value xs)
    ∙ sym (sum_by-cons (λ x. cond (option_map_or (λ v. bytes_eq v value) (given x) false) 1 0) x xs)
  where
    step : (o : Option (List ℕ)) → times by_bytes value (cons_option o (filter_map given xs)) ≡ cond (option_map_or (λ v. bytes_eq v value) o false) 1 0 + times by_bytes value (filter_map given xs)
    step None = sym (plus_none (times by_bytes value (filter_map given xs)))
    step (Some v) = times-cons by_bytes value v (filter_map given xs) ∙ ap (λ b. cond b 1 0 + times by_bytes value (filter_map given xs)) (bytes_tie value v)

length-filter_map : {X : Type 0} (given : X → Option (List ℕ)) (xs : List X) → length (filter_map given xs) ≡ sum_by (λ x. cond (is_some (given x)) 1 0) xs
length-filter_map given [] = refl
length-filter_map given (x ∷ xs) =
    step (given x)
    ∙ ap (λ n. cond (is_some (given x)) 1 0 + n) (length-filter_map given xs)
    ∙ sym (sum_by-cons (λ x. cond (is_some (given x)) 1 0) x xs)
  where
    step : (o : Option (List ℕ)) → length (cons_option o (filter_map given xs)) ≡ cond (is_some o) 1 0 + length (filter_map given xs)
    step None = omega arith
    step (Some v) = omega arith

-- equal multisets of envelopes have one database
pub database_of-permutation : (inner : Keys) (xs ys : List (List ℕ)) → IsPermutation xs ys → database_of inner xs ≡ database_of inner ys
database_of-permutation inner xs ys moved =
    let given = reported inner in
    let counts : (q : List ℕ) → times by_bytes q (filter_map given xs) ≡ times by_bytes q (filter_map given ys) = λ q. times-filter_map given q xs ∙ sym (sum_by-IsPermutation _ xs ys moved) ∙ sym (times-filter_map given q ys) in
    let rows : rows_of (filter_map given xs) ≡ rows_of (filter_map given ys) = ap finite.entries (tally-counts nat_list_cmp_total names_apart _ _ counts) in
    let opened : length (filter_map given xs) ≡ length (filter_map given ys) = length-filter_map given xs ∙ sym (sum_by-IsPermutation _ xs ys moved) ∙ sym (length-filter_map given ys) in
    let all : length xs ≡ length ys = sym (length_permutation xs ys moved) in
    λ i. record { rows = rows i; unopened = all i - opened i }

unwrap_or-entry_of : (n : ℕ) → unwrap_or (entry_of n) 0 ≡ n
unwrap_or-entry_of zero = refl
unwrap_or-entry_of (suc n) = refl

-- a value's count is the number of the envelopes that give it
pub count_in-database_of : (inner : Keys) (list : List (List ℕ)) (value : List ℕ) → count_in (database_of inner list) value ≡ count_by (gives inner value) list
count_in-database_of inner list value =
    let values = filter_map (reported inner) list in
    ap (λ o. unwrap_or o 0) (sym (finite.get-entries (tally by_bytes values) value) ∙ get-tally nat_list_cmp_total values value)
    ∙ unwrap_or-entry_of (times by_bytes value values)
    ∙ times-filter_map (reported inner) value list

-- what a call of `count` leaves, by what its steps ensure
pub record Steps (inner prepared : Keys) (old new : Kept) (size number : ℕ) (envelopes : List ℕ) : Type 0 where
  pub keys : prepared ≡ inner
  pub size_is : size ≡ inner_length (form_of old)
  pub number_is : number ≡ length envelopes / size
  pub form : form_of new ≡ form_of old
  pub rows : rows_of (values_of new) ≡ rows_of (filter_map (reported prepared) (pieces (inner_length (form_of old)) number envelopes))
  pub kept : length (keys_of new) ≡ length (filter_map (reported prepared) (pieces (inner_length (form_of old)) number envelopes))

pub steps-counted : (inner prepared : Keys) (old new : Kept) (size number rows room : ℕ) (envelopes : List ℕ) (now : Counted) → Steps inner prepared old new size number envelopes → form_of old ≡ now.form → room ≡ now.room
    → (list : List (List ℕ)) → HaveLength (inner_length now.form) list → envelopes ≡ concat list
    → counted_in (record { kept = new; total = number; rows = rows; room = room }) ≡ record { form = now.form; room = now.room; database = database_of inner list }
steps-counted inner prepared old new size number rows room envelopes now steps form room_is list have joined =
    counted_in-list prepared old new size number rows room envelopes list steps.size_is steps.number_is (subst (λ f. HaveLength (inner_length f) list) (sym form) have) joined steps.form steps.rows steps.kept
    ∙ (λ i. record { form = form i; room = room_is i; database = database_of (steps.keys i) list })
