-- The file of kept keys: its header and their rows.
use Rattle.std.proofs.Common.{◌≡◌, ℕ, List, ◌++◌, length, refl, sym, ap, ◌∙◌}
use Rattle.std.specs.Prelude.{flat_map}
use Rattle.esa_params.specs.Form.{report_length}
use Rattle.esa_params.specs.declared.form.Form.{Form}
use Rattle.esa_analyser.specs.declared.kept.Kept.{Kept}
use Rattle.esa_analyser.specs.Database.{rows_of}
use Rattle.esa_analyser.specs.declared.analysis.Analysis.TheInside.{Inside}
use Rattle.esa_analyser.specs.Counted.{Counted}
use Rattle.esa_analyser.specs.Inside.{counted_in}
use Rattle.esa_analyser.specs.Rows.{row_bytes, front_bytes, database_bytes}
use Rattle.esa_analyser.specs.RunBytes.{run_bytes}
use Rattle.esa_analyser.specs.Kept.{keys_of, form_of, values_of, AreSorted}
use Rattle.esa_analyser.specs.KeptBytes.{kept_bytes}
use Rattle.esa_analyser.proofs.KeyRuns.{rows_of-keys}
use Rattle.esa_analyser.proofs.KeptLaws.{kept_keys}
use Rattle.esa_analyser.proofs.RunWriting.{file_parts}

-- the rows of the runs are the rows of the values
pub run_bytes-rows : (kept : Kept) → AreSorted kept → run_bytes (keys_of kept) ≡ flat_map row_bytes (rows_of (values_of kept))
run_bytes-rows kept sorted = sym (ap (flat_map row_bytes) (rows_of-keys (report_length (form_of kept)) (keys_of kept) (kept_keys kept sorted.each) sorted.order))

pub kept_parts : (kept : Kept) (form : Form) (front : List ℕ) (rows unopened : ℕ) → AreSorted kept → form ≡ form_of kept → front ≡ front_bytes form rows unopened → rows ≡ length (rows_of (values_of kept)) → front ++ run_bytes (keys_of kept) ≡ kept_bytes kept unopened
kept_parts kept form front rows unopened sorted form_is front_is rows_is =
    file_parts (form_of kept) (record { rows = rows_of (values_of kept); unopened = unopened }) front rows unopened (run_bytes (keys_of kept)) (front_is ∙ ap (λ f. front_bytes f rows unopened) form_is) rows_is refl (run_bytes-rows kept sorted)

-- the file of what is counted
pub kept_file : (inside : Inside) (now : Counted) (unopened : ℕ) → counted_in inside ≡ now → unopened ≡ now.database.unopened → kept_bytes inside.kept unopened ≡ database_bytes now.form now.database
kept_file inside now unopened view unopened_is =
    let form : form_of inside.kept ≡ now.form = ap (λ v. v.form) view in
    let rows : rows_of (values_of inside.kept) ≡ now.database.rows = ap (λ v. v.database.rows) view in
    λ i. database_bytes (form i) (record { rows = rows i; unopened = unopened_is i })
