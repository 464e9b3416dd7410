-- The values of a JSON list, and the names among them.
use Rattle.std.proofs.Common.{◌≡◌, ℕ, Bool, false, ◌&&◌, ◌||◌, bytes_eq, List, [], ◌∷◌, map, length, nat_le, Option, Some, None, refl, ap, ◌∙◌}
use Rattle.std.specs.List.{list_all, list_any, filter_map, cons_option}
use Rattle.std.specs.Option.{option_map_or}
use Rattle.std.proofs.lemmas.List.{length-map}
use Rattle.std.proofs.lemmas.List.Folds.{list_all-map}
use Rattle.serde_json.specs.Data.{Data}
use Rattle.esa_job.specs.Refusal.{is_name_of}
use Rattle.esa_job.specs.Values.{name_in, is_name, is_name_list}

-- a list of values as values of another type, which view turns into data
pub is_name_list-map : {V : Type 0} (view : V → Data) (values : List V) → is_name_list (map view values) ≡ (nat_le 1 (length values) && nat_le (length values) 16 && list_all (λ value. is_name (view value)) values)
is_name_list-map view values = rw (length-map values view, list_all-map is_name view values) refl

list_any-cons_option : {B : Type 0} (test : B → Bool) (found : Option B) (rest : List B) → list_any test (cons_option found rest) ≡ (option_map_or test found false || list_any test rest)
list_any-cons_option test None rest = refl
list_any-cons_option test (Some x) rest = refl

list_any-filter_map : {A B : Type 0} (test : B → Bool) (f : A → Option B) (values : List A) → list_any test (filter_map f values) ≡ list_any (λ value. option_map_or test (f value) false) values
list_any-filter_map test f [] = refl
list_any-filter_map test f (value ∷ values) =
    list_any-cons_option test (f value) (filter_map f values)
    ∙ ap (λ rest. option_map_or test (f value) false || rest) (list_any-filter_map test f values)

list_any-map : {A B : Type 0} (test : B → Bool) (f : A → B) (values : List A) → list_any test (map f values) ≡ list_any (λ value. test (f value)) values
list_any-map test f [] = refl
list_any-map test f (value ∷ values) = ap (λ rest. test (f value) || rest) (list_any-map test f values)

-- this is one of the names in the values, which view turns into data
pub any_name : {V : Type 0} (view : V → Data) (name : List ℕ) (values : List V) → list_any (bytes_eq name) (filter_map name_in (map view values)) ≡ list_any (λ value. is_name_of name (view value)) values
any_name view name values = list_any-filter_map (bytes_eq name) name_in (map view values) ∙ list_any-map (is_name_of name) view values
