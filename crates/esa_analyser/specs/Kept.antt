-- The sort keys that are kept.
use Rattle.std.specs.Prelude.{ℕ, List, map, All, vec_capacity}
use Rattle.std.specs.Ordering.{nat_cmp}
use Rattle.std.specs.Cmp.Lexicographic.{slice_cmp}
use Rattle.std.specs.List.Sorted.{IsSorted}
use Rattle.esa_params.specs.declared.form.Form.{Form}
use Rattle.esa_params.specs.declared.form.Form.TheVariants as form
use Rattle.esa_analyser.specs.declared.kept.Kept.{Kept}
use Rattle.esa_analyser.specs.declared.kept.Kept.TheVariants.{One, Two}
use Rattle.esa_analyser.specs.SortKey.{key_value}
use Rattle.esa_analyser.specs.Repeated.{all_keys, IsRepeated}

-- the keys, each as often as it was reported
abbrev pub keys_of : Kept → List (List ℕ)
keys_of (One keys) = all_keys keys.items
keys_of (Two keys) = all_keys keys.items

abbrev pub form_of : Kept → Form
form_of (One keys) = form.One
form_of (Two keys) = form.Two

abbrev pub capacity_of : Kept → ℕ
capacity_of (One keys) = vec_capacity keys
capacity_of (Two keys) = vec_capacity keys

-- the values of the keys
abbrev pub values_of : Kept → List (List ℕ)
values_of kept = map key_value (keys_of kept)

-- each of the keys is one of reports of the form, and was reported
abbrev pub AreRepeated : Kept → Type 0
AreRepeated (One keys) = All IsRepeated keys.items
AreRepeated (Two keys) = All IsRepeated keys.items

-- so it is, and the keys are in order
pub record AreSorted (kept : Kept) : Type 0 where
  pub each : AreRepeated kept
  pub order : IsSorted (slice_cmp nat_cmp) (keys_of kept)
