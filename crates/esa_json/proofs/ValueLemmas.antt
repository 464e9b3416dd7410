-- The values of a JSON list.
use Rattle.std.proofs.Common.{◌≡◌, List, [], ◌∷◌, Some, option_map, refl, ap, ◌∙◌, sym}
use Rattle.serde_json.specs.Data.{Data}
use Rattle.serde_json.specs.Find.{as_array}
use Rattle.serde_json.specs.View.{items_of}
use Rattle.esa_json.specs.Values.{list_of, values_in}

list_of-items_of : (values : List Data) → list_of (items_of values) ≡ values
list_of-items_of [] = refl
list_of-items_of (value ∷ values) = ap (λ rest. value ∷ rest) (list_of-items_of values)

-- the values that a list was made of
pub values_in-items : (value : Data) (values : List Data) → Some (items_of values) ≡ as_array value → values_in value ≡ Some values
values_in-items value values is = ap (option_map list_of) (sym is) ∙ ap (λ list. Some list) (list_of-items_of values)
