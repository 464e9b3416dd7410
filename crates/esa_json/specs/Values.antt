-- What a JSON value is: the values of a list, or a whole number.
use Rattle.std.specs.Prelude.{ℕ, List, [], ◌∷◌, Option, option_map, option_and_then}
use Rattle.serde_json.specs.Data.{Data, Items, no_items, item}
use Rattle.serde_json.specs.Find.{as_array, as_number, as_u64}

-- the values of a JSON list
abbrev pub list_of : Items → List Data
list_of no_items = []
list_of (item value values) = value ∷ list_of values

-- the values of the list that a value is, if it is one
abbrev pub values_in : Data → Option (List Data)
values_in value = option_map list_of (as_array value)

-- the whole number from 0 to 2^64 - 1 that a value is, if it is one
abbrev pub number_in : Data → Option ℕ
number_in value = option_and_then as_u64 (as_number value)
