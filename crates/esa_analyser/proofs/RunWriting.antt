-- Rows that are put one after another.
use Rattle.std.proofs.Common.{ℕ, ◌+◌, ◌<◌, List, [], ◌∷◌, ◌++◌, length, drop, map as map_list, get_or, refl, sym, ap, subst, ◌∙◌, arith, append_assoc}
use Rattle.std.specs.Prelude.{◌≡◌, flat_map, All}
use Rattle.esa_params.specs.declared.form.Form.{Form}
use Rattle.esa_analyser.specs.Database.{Database}
use Rattle.std.proofs.lemmas.List.{get_or-drop, length-drop, drop_more}
use Rattle.esa_lists.specs.Tally.{runs}
use Rattle.esa_lists.proofs.RunsLaws.{runs-nil}
use Rattle.esa_analyser.specs.Rows.{row_bytes, front_bytes, database_bytes}
use Rattle.esa_analyser.specs.SortKey.{key_value, row_of}
use Rattle.esa_analyser.specs.declared.repeated.Repeated.{Repeated}
use Rattle.esa_analyser.specs.Repeated.{all_keys}
use Rattle.esa_analyser.specs.RunBytes.{run_bytes}
use Rattle.esa_analyser.proofs.KeyRuns.{by_bytes}

-- one run further
pub run_step : (whole : List ℕ) (rest others : List (List ℕ)) (value first : List ℕ) (n : ℕ) (done : List ℕ) → whole ≡ done ++ run_bytes rest → runs by_bytes rest ≡ (first, n) ∷ runs by_bytes others → value ≡ key_value first
    → whole ≡ (done ++ row_bytes (value, n)) ++ run_bytes others
run_step whole rest others value first n done so_far run spelled =
    so_far
    ∙ ap (λ rows. done ++ flat_map row_bytes (map_list row_of rows)) run
    ∙ ap (λ v. done ++ (row_bytes (v, n) ++ run_bytes others)) (sym spelled)
    ∙ sym (append_assoc done (row_bytes (value, n)) (run_bytes others))

no_run_bytes : (rest : List (List ℕ)) → length rest ≡ 0 → run_bytes rest ≡ []
no_run_bytes [] none = ap (λ rows. flat_map row_bytes (map_list row_of rows)) (runs-nil by_bytes)
no_run_bytes (x ∷ xs) none = absurd (omega arith)

pub no_rows : {P : ℕ} (rest : List (Repeated P)) → length rest ≡ 0 → run_bytes (all_keys rest) ≡ []
no_rows [] none = no_run_bytes [] refl
no_rows (one ∷ rest) none = absurd (omega arith)

pub all_behind : {X : Type 0} (P : X → Type 0) (n : ℕ) (xs ys : List X) → ys ≡ drop n xs → All P xs → All P ys
all_behind P n xs ys behind each = subst (All P) (sym behind) (λ k d below. subst P (sym (get_or-drop n xs k d)) (each (n + k) d (omega (arith, length-drop n xs))))

-- one row further
pub row_step : (whole : List ℕ) (rows : List (List ℕ × ℕ)) (i : ℕ) (value : List ℕ) (n : ℕ) (done : List ℕ) → whole ≡ done ++ flat_map row_bytes (drop i rows) → i < length rows → value ≡ (get_or rows i ([], 0)).0 → n ≡ (get_or rows i ([], 0)).1
    → whole ≡ (done ++ row_bytes (value, n)) ++ flat_map row_bytes (drop (i + 1) rows)
row_step whole rows i value n done so_far below value_is n_is =
    so_far
    ∙ ap (λ rs. done ++ flat_map row_bytes rs) (drop_more rows i ([], 0) below)
    ∙ ap (λ v. done ++ (row_bytes (v, (get_or rows i ([], 0)).1) ++ flat_map row_bytes (drop (i + 1) rows))) (sym value_is)
    ∙ ap (λ m. done ++ (row_bytes (value, m) ++ flat_map row_bytes (drop (i + 1) rows))) (sym n_is)
    ∙ sym (append_assoc done (row_bytes (value, n)) (flat_map row_bytes (drop (i + 1) rows)))

-- the header and the rows are the file
pub file_parts : (form : Form) (database : Database) (front : List ℕ) (rows unopened : ℕ) (behind : List ℕ) → front ≡ front_bytes form rows unopened → rows ≡ length database.rows → unopened ≡ database.unopened → behind ≡ flat_map row_bytes database.rows → front ++ behind ≡ database_bytes form database
file_parts form database front rows unopened behind front_is rows_is unopened_is behind_is =
    (λ i. front_is i ++ behind_is i) ∙ (λ i. front_bytes form (rows_is i) (unopened_is i) ++ flat_map row_bytes database.rows)
