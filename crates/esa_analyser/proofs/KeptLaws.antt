-- What is kept is a database that a file can hold.
use Rattle.std.proofs.Common.{◌≡◌, ℕ, ◌+◌, ◌-◌, ◌^◌, ◌<◌, ◌≤◌, Bool, true, false, cond, List, [], ◌∷◌, length, map, get_or, Some, None, refl, sym, ap, subst, arith}
use Rattle.std.specs.Prelude.{All}
use Rattle.std.specs.List.Sorted.{IsSorted}
use Rattle.std.specs.Ordering.{eq_by_cmp, is_lt}
use Rattle.std.specs.FinMap as finite
use Rattle.std.proofs.Math.Dec.{T}
use Rattle.std.proofs.lemmas.Bool.{and_parts}
use Rattle.std.proofs.lemmas.List.{length-map}
use Rattle.std.proofs.lemmas.List.Elements.{All-cons, All-tail, All-get_or, All-map}
use Rattle.std.proofs.lemmas.List.Sums.{get_or-le-sum_by}
use Rattle.esa_params.specs.declared.form.Form.{Form}
use Rattle.esa_params.specs.Form.{report_length}
use Rattle.esa_lists.specs.Tally.{runs, tally, count_first}
use Rattle.esa_lists.proofs.RunsLaws.{runs-nil, runs-cons, total-runs}
use Rattle.esa_analyser.specs.Database.{longest, rows_of}
use Rattle.esa_analyser.specs.Rows.{AreRising, IsRow, IsDatabase}
use Rattle.esa_analyser.specs.SortKey.{key_value, IsSortKey, row_of}
use Rattle.esa_analyser.specs.declared.kept.Kept.{Kept}
use Rattle.esa_analyser.specs.declared.kept.Kept.TheVariants.{One, Two}
use Rattle.esa_analyser.specs.Kept.{keys_of, form_of, AreRepeated}
use Rattle.esa_analyser.proofs.KeyRuns.{by_bytes, rows_of-keys, runs-values}
use Rattle.esa_analyser.proofs.Repeats.{are_sort_keys}

-- each of the kept keys is a sort key
pub kept_keys : (kept : Kept) → AreRepeated kept → All (IsSortKey (report_length (form_of kept))) (keys_of kept)
kept_keys (One keys) each = are_sort_keys keys.items each
kept_keys (Two keys) each = are_sort_keys keys.items each

-- a run has an element
abbrev IsSome : List ℕ × ℕ → Type 0
IsSome run = 0 < run.1

some-count_first : (x : List ℕ) (rows : List (List ℕ × ℕ)) → All IsSome rows → All IsSome (count_first by_bytes x rows)
unfolding count_first
some-count_first x [] some = All-cons IsSome (x, 1) [] (omega arith) some
some-count_first x (row ∷ rows) some =
    elim (eq_by_cmp by_bytes x row.0) as (λ b. All IsSome (cond b ((x, row.1 + 1) ∷ rows) ((x, 1) ∷ row ∷ rows))) [
      | true ↦ All-cons IsSome (x, row.1 + 1) rows (omega arith) (All-tail IsSome row rows some)
      | false ↦ All-cons IsSome (x, 1) (row ∷ rows) (omega arith) some
    ]

some-runs : (xs : List (List ℕ)) → All IsSome (runs by_bytes xs)
some-runs [] = subst (All IsSome) (sym (runs-nil by_bytes)) (λ k d below. absurd (omega arith))
some-runs (x ∷ xs) = subst (All IsSome) (sym (runs-cons by_bytes x xs)) (some-count_first x (runs by_bytes xs) (some-runs xs))

-- there are no more runs than elements
few-count_first : (x : List ℕ) (rows : List (List ℕ × ℕ)) → length (count_first by_bytes x rows) ≤ 1 + length rows
unfolding count_first
few-count_first x [] = omega arith
few-count_first x (row ∷ rows) =
    elim (eq_by_cmp by_bytes x row.0) as (λ b. length (cond b ((x, row.1 + 1) ∷ rows) ((x, 1) ∷ row ∷ rows)) ≤ 1 + length (row ∷ rows)) [
      | true ↦ omega arith
      | false ↦ omega arith
    ]

few-runs : (xs : List (List ℕ)) → length (runs by_bytes xs) ≤ length xs
few-runs [] = omega (arith, ap length (runs-nil by_bytes))
few-runs (x ∷ xs) = omega (arith, ap length (runs-cons by_bytes x xs), few-count_first x (runs by_bytes xs), few-runs xs)

-- entries with rising keys are rising rows
rising_behind : (before : List ℕ) (rows : List (List ℕ × ℕ)) → finite.Entries.below_all by_bytes before rows ≡ true → finite.is_sorted by_bytes rows ≡ true → AreRising (Some before) rows
rising_behind before [] below sorted = tt
rising_behind before (row ∷ rows) below sorted =
    let parts = and_parts (finite.Entries.below_all by_bytes row.0 rows) (finite.is_sorted by_bytes rows) sorted in
    ((and_parts (is_lt (by_bytes before row.0)) (finite.Entries.below_all by_bytes before rows) below).0, rising_behind row.0 rows parts.0 parts.1)

pub holds : (b : Bool) → T b → b ≡ true
holds true h = refl
holds false h = absurd h

pub rising : (rows : List (List ℕ × ℕ)) → finite.is_sorted by_bytes rows ≡ true → AreRising None rows
rising [] sorted = tt
rising (row ∷ rows) sorted =
    let parts = and_parts (finite.Entries.below_all by_bytes row.0 rows) (finite.is_sorted by_bytes rows) sorted in
    (refl, rising_behind row.0 rows parts.0 parts.1)

is_row : (size number : ℕ) (run : List ℕ × ℕ) → IsSortKey size run.0 → 0 < run.1 → run.1 ≤ number → number < 2 ^ 32 → IsRow (size - 2) (row_of run)
is_row size number run is some few small = let fits = is.fits in record { short = omega arith; counted = some; fits = omega arith }

-- the database of sorted keys
pub IsDatabase-keys : (form : Form) (keys : List (List ℕ)) (total : ℕ) → All (IsSortKey (report_length form)) keys → IsSorted by_bytes keys → length keys ≤ total → total < 2 ^ 32
    → IsDatabase form (record { rows = rows_of (map key_value keys); unopened = total - length keys })
IsDatabase-keys form keys total are sorted few small =
    let size = report_length form in
    let key_runs = runs by_bytes keys in
    let rows : rows_of (map key_value keys) ≡ map row_of key_runs = rows_of-keys size keys are sorted in
    record {
      rising = rising (rows_of (map key_value keys)) (holds _ (finite.entries_sorted (tally by_bytes (map key_value keys))));
      rows = subst (All (IsRow (longest form))) (sym rows) (All-map (IsRow (longest form)) row_of key_runs
          (λ k d below. is_row size (length keys) (get_or key_runs k d) (All-get_or (λ run. IsSortKey size run.0) key_runs k d below (runs-values size keys are).keys_are) (All-get_or IsSome key_runs k d below (some-runs keys))
          (omega (arith, get_or-le-sum_by (λ run. run.1) key_runs k d below, total-runs by_bytes keys)) (omega arith)));
      number = omega (arith, ap length rows, length-map key_runs row_of, few-runs keys);
      unopened = omega arith;
    }
