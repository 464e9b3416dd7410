-- Runs of sort keys: their values' rows.
use Rattle.std.proofs.Common.{◌≡◌, ℕ, zero, suc, ◌+◌, ◌-◌, ◌<◌, ◌≤◌, true, false, cond, List, [], ◌∷◌, ◌++◌, length, drop, map, get_or, replicate, refl, sym, ap, subst, ◌∙◌, arith, nat_eq, zero-add}
use Rattle.std.specs.Prelude.{All, bytes_eq}
use Rattle.std.specs.List.{prefix_len}
use Rattle.std.specs.List.Sorted.{IsSorted, IsPermutation}
use Rattle.std.specs.declared.cmp.Ordering.{Ordering}
use Rattle.std.specs.declared.cmp.Ordering.TheVariants.{Less, Equal}
use Rattle.std.specs.Ordering.{nat_cmp, eq_by_cmp, is_eq, is_lt, ordering_then}
use Rattle.std.specs.Cmp.Lexicographic.{slice_cmp, lists_ties}
use Rattle.std.specs.FinMap as finite
use Rattle.std.proofs.lemmas.Cmp.{nat_list_cmp_total, nat_list_eq_equiv}
use Rattle.std.proofs.lemmas.Bool.Decides.{nat_tests}
use Rattle.std.proofs.lemmas.List.{get_or-map, length-map}
use Rattle.std.proofs.lemmas.List.Elements.{All-cons, All-head, All-tail, All-get_or}
use Rattle.std.proofs.lemmas.List.Sums.{prefix_len_is}
use Rattle.esa_lists.specs.Tally.{runs, count_first}
use Rattle.esa_lists.proofs.FilesLaws.{names_apart}
use Rattle.esa_lists.proofs.TallyLaws.{tally-permutation}
use Rattle.esa_lists.proofs.RunsLaws.{runs-nil, runs-cons, runs-run, entries-tally_sorted}
use Rattle.esa_analyser.specs.Database.{rows_of}
use Rattle.esa_analyser.specs.SortKey.{sort_key, key_value, IsSortKey, row_of}
use Rattle.esa_analyser.proofs.KeyOrder.{padded, order-padded, padded-append, less_number}

abbrev pub by_bytes : List ℕ → List ℕ → Ordering
by_bytes = slice_cmp nat_cmp

-- what marks a value's length
abbrev mark : ℕ → List ℕ
mark n = 0 ∷ n ∷ []

mark-rises : (a b : ℕ) → a < b → by_bytes (mark a) (mark b) ≡ Less
mark-rises a b less = ap (λ o. ordering_then o Equal) (less_number a b less)

sort_key-padded : (size : ℕ) (value : List ℕ) → length value + 2 ≤ size → sort_key size value ≡ padded mark (size - 2) 0 value
unfolding sort_key
sort_key-padded size value fits =
    let short : length value ≤ size - 2 = omega arith in
    ap (λ n. value ++ (replicate (size - 2 - length value) 0 ++ mark n)) (sym (zero-add (length value))) ∙ sym (padded-append mark (size - 2) 0 value short)

-- sort keys are in the order of their values
pub order-keys : (size : ℕ) (x y : List ℕ) → IsSortKey size x → IsSortKey size y → by_bytes (key_value x) (key_value y) ≡ by_bytes x y
order-keys size x y first second =
    sym (order-padded mark mark-rises (size - 2) 0 (key_value x) (key_value y) (short _ first.fits) (short _ second.fits))
    ∙ (λ i. by_bytes (as_padded first i) (as_padded second i))
  where
    short : (n : ℕ) → n + 2 ≤ size → n ≤ size - 2
    short n fits = omega arith

    as_padded : {key : List ℕ} → IsSortKey size key → padded mark (size - 2) 0 (key_value key) ≡ key
    as_padded {key} is = sym (is.spelled ∙ sort_key-padded size (key_value key) is.fits)

-- so sorted keys have sorted values
pub IsSorted-values : (size : ℕ) (keys : List (List ℕ)) → All (IsSortKey size) keys → IsSorted by_bytes keys → IsSorted by_bytes (map key_value keys)
IsSorted-values size keys are sorted k d low below =
    let inside : k + 1 < length keys = omega (arith, length-map keys key_value) in
    let here : k < length keys = omega arith in
    let x = get_or keys k [] in
    let y = get_or keys (k + 1) [] in
    let order : by_bytes (key_value y) (key_value x) ≡ by_bytes y x = order-keys size y x (All-get_or (IsSortKey size) keys (k + 1) [] inside are) (All-get_or (IsSortKey size) keys k [] here are) in
    (λ i. is_lt (by_bytes (get_or-map key_value keys (k + 1) [] d inside i) (get_or-map key_value keys k [] d here i)))
    ∙ ap is_lt order
    ∙ sorted k [] low inside

pub record RowsOfRuns (size : ℕ) (rows : List (List ℕ × ℕ)) (key_runs : List (List ℕ × ℕ)) : Type 0 where
  pub rows_are : rows ≡ map row_of key_runs
  pub keys_are : All (λ run. IsSortKey size run.0) key_runs

one_first : (size : ℕ) (x : List ℕ) (key_runs : List (List ℕ × ℕ)) → IsSortKey size x → All (λ run. IsSortKey size run.0) key_runs → RowsOfRuns size (count_first by_bytes (key_value x) (map row_of key_runs)) (count_first by_bytes x key_runs)
unfolding count_first
one_first size x [] is are = record { rows_are = refl; keys_are = All-cons (λ run. IsSortKey size run.0) (x, 1) [] is are }
one_first size x (run ∷ key_runs) is are =
    let Key = λ (run : List ℕ × ℕ). IsSortKey size run.0 in
    let tie : eq_by_cmp by_bytes (key_value x) (key_value run.0) ≡ eq_by_cmp by_bytes x run.0 = ap is_eq (order-keys size x run.0 is (All-head Key run key_runs are)) in
    let more = map row_of key_runs in
    subst (λ b. RowsOfRuns size (cond b ((key_value x, run.1 + 1) ∷ more) ((key_value x, 1) ∷ row_of run ∷ more)) (cond (eq_by_cmp by_bytes x run.0) ((x, run.1 + 1) ∷ key_runs) ((x, 1) ∷ run ∷ key_runs))) (sym tie)
    (elim (eq_by_cmp by_bytes x run.0) as (λ b. RowsOfRuns size (cond b ((key_value x, run.1 + 1) ∷ more) ((key_value x, 1) ∷ row_of run ∷ more)) (cond b ((x, run.1 + 1) ∷ key_runs) ((x, 1) ∷ run ∷ key_runs))) [
      | true ↦ record { rows_are = refl; keys_are = All-cons Key (x, run.1 + 1) key_runs is (All-tail Key run key_runs are) }
      | false ↦ record { rows_are = refl; keys_are = All-cons Key (x, 1) (run ∷ key_runs) is are }
    ])

-- the runs of keys, and the rows of their values
pub runs-values : (size : ℕ) (keys : List (List ℕ)) → All (IsSortKey size) keys → RowsOfRuns size (runs by_bytes (map key_value keys)) (runs by_bytes keys)
runs-values size [] are = subst (λ empty. RowsOfRuns size (empty) (empty)) (sym (runs-nil by_bytes)) (record { rows_are = refl; keys_are = λ k d below. absurd (omega arith) })
runs-values size (x ∷ xs) are =
    let rest = runs-values size xs (All-tail (IsSortKey size) x xs are) in
    let first = one_first size x (runs by_bytes xs) (All-head (IsSortKey size) x xs are) rest.keys_are in
    let rows : runs by_bytes (map key_value (x ∷ xs)) ≡ count_first by_bytes (key_value x) (map row_of (runs by_bytes xs)) =
    runs-cons by_bytes (key_value x) (map key_value xs) ∙ ap (count_first by_bytes (key_value x)) rest.rows_are in
    subst (λ key_runs. RowsOfRuns size (runs by_bytes (map key_value (x ∷ xs))) key_runs) (sym (runs-cons by_bytes x xs))
    (subst (λ rows. RowsOfRuns size rows (count_first by_bytes x (runs by_bytes xs))) (sym rows) first)

-- the rows of sorted keys' values are the keys' runs
pub rows_of-keys : (size : ℕ) (keys : List (List ℕ)) → All (IsSortKey size) keys → IsSorted by_bytes keys → rows_of (map key_value keys) ≡ map row_of (runs by_bytes keys)
rows_of-keys size keys are sorted =
    entries-tally_sorted nat_list_cmp_total names_apart (map key_value keys) (IsSorted-values size keys are sorted) ∙ (runs-values size keys are).rows_are

-- and their order makes no difference
pub rows_of-permutation : (xs ys : List (List ℕ)) → IsPermutation xs ys → rows_of xs ≡ rows_of ys
rows_of-permutation xs ys moved = ap finite.entries (tally-permutation nat_list_cmp_total names_apart xs ys moved)

nat_ties : (x y : ℕ) → nat_eq x y ≡ eq_by_cmp nat_cmp x y
nat_ties x y = grind (arith, nat_tests)

pub bytes_tie : (x y : List ℕ) → eq_by_cmp by_bytes x y ≡ bytes_eq y x
bytes_tie x y = sym (lists_ties nat_cmp nat_ties x y) ∙ nat_list_eq_equiv.symm x y

-- a run at the front, by what a walk found
pub run_at : (keys : List (List ℕ)) (n : ℕ) → 0 < n → n ≤ length keys → ((k : ℕ) → k < n → bytes_eq (get_or keys k []) (get_or keys 0 []) ≡ true) → (n < length keys → bytes_eq (get_or keys n []) (get_or keys 0 []) ≡ false)
    → runs by_bytes keys ≡ (get_or keys 0 [], n) ∷ runs by_bytes (drop n keys)
run_at keys zero some inside same ends = absurd (omega arith)
run_at [] (suc n) some inside same ends = absurd (omega arith)
run_at (x ∷ xs) (suc n) some inside same ends =
    let run : prefix_len (eq_by_cmp by_bytes x) xs ≡ n = prefix_len_is (eq_by_cmp by_bytes x) xs n [] (omega arith)
    (λ k below. bytes_tie x (get_or xs k []) ∙ same (suc k) (omega arith))
    (λ below. bytes_tie x (get_or xs n []) ∙ ends (omega arith)) in
    let one_more : 1 + n ≡ suc n = omega arith in
    runs-run nat_list_cmp_total names_apart x xs
    ∙ ap (λ p. (x, 1 + p) ∷ runs by_bytes (drop p xs)) run
    ∙ ap (λ m. (x, m) ∷ runs by_bytes (drop n xs)) one_more

pub length-run : (keys : List (List ℕ)) (first : List ℕ) (n : ℕ) (rest : List (List ℕ)) → runs by_bytes keys ≡ (first, n) ∷ runs by_bytes rest → length (runs by_bytes keys) ≡ length (runs by_bytes rest) + 1
length-run keys first n rest is = ap length is ∙ omega arith

pub no_runs : (keys : List (List ℕ)) → length keys ≡ 0 → length (runs by_bytes keys) ≡ 0
no_runs [] none = ap length (runs-nil by_bytes)
no_runs (x ∷ xs) none = absurd (omega arith)
