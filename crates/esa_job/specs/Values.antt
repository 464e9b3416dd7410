-- What the values of a job's fields are, by their types.
use Rattle.std.specs.Prelude.{ℕ, Bool, true, false, ◌&&◌, nat_le, List, length, codes, bytes_eq, Option, Some, None, is_some, option_and_then, if◌then◌else◌}
use Rattle.std.specs.List.{list_all}
use Rattle.std.specs.Option.{option_map_or}
use Rattle.std.specs.Result.{result_ok}
use Rattle.hex.specs.Hex.{decode_sized}
use Rattle.serde_json.specs.Data.{Data}
use Rattle.serde_json.specs.Find.{as_str}
use Rattle.esa_json.specs.Values.{values_in, number_in}
use Rattle.esa_params.specs.declared.draw.Draw.{Draw}
use Rattle.esa_params.specs.declared.draw.Draw.TheVariants.{Single, Separators}
use Rattle.esa_params.specs.declared.form.Form.{Form}
use Rattle.esa_params.specs.declared.form.Form.TheVariants.{One, Two}
use Rattle.esa_job.specs.declared.field.Kind.{Kind}
use Rattle.esa_job.specs.declared.field.Kind.TheVariants as kind
use Rattle.esa_job.specs.declared.value.Mode.{Mode}
use Rattle.esa_job.specs.declared.value.Mode.TheVariants.{Turns, Crew}

-- the value, if it passes the test
abbrev pub option_filter : {T : Type 0} → (T → Bool) → Option T → Option T
option_filter test None = None
option_filter test (Some x) = if test x then Some x else None

-- a name has 1 to 255 bytes
abbrev pub is_short : List ℕ → Bool
is_short text = nat_le 1 (length text) && nat_le (length text) 255

-- the name that a value is
abbrev pub name_in : Data → Option (List ℕ)
name_in value = option_filter is_short (as_str value)

abbrev pub is_name : Data → Bool
is_name value = is_some (name_in value)

-- the 32 bytes of 64 hexadecimal digits that a value is
abbrev pub key_in : Data → Option (List ℕ)
key_in value = option_and_then (λ text. result_ok (decode_sized text 32)) (as_str value)

abbrev pub draw_named : List ℕ → Option Draw
draw_named word = if bytes_eq word (codes "single") then Some Single else if bytes_eq word (codes "separators") then Some Separators else None

abbrev pub draw_in : Data → Option Draw
draw_in value = option_and_then draw_named (as_str value)

abbrev pub is_separators : Draw → Bool
is_separators Single = false
is_separators Separators = true

abbrev pub mode_named : List ℕ → Option Mode
mode_named word = if bytes_eq word (codes "turns") then Some Turns else if bytes_eq word (codes "crew") then Some Crew else None

abbrev pub mode_in : Data → Option Mode
mode_in value = option_and_then mode_named (as_str value)

abbrev pub is_crew : Mode → Bool
is_crew Turns = false
is_crew Crew = true

-- the number that stands for a form of the records
abbrev pub form_number : Form → ℕ
form_number One = 1
form_number Two = 2

-- a list of names has 1 to 16 of them
abbrev pub is_name_list : List Data → Bool
is_name_list values = nat_le 1 (length values) && nat_le (length values) 16 && list_all is_name values

abbrev pub holds_names : Data → Bool
holds_names value = option_map_or is_name_list (values_in value) false

-- a value is of a type
abbrev pub accepts : Kind → Data → Bool
accepts kind.Name value = is_name value
accepts kind.Names value = holds_names value
accepts kind.Seed value = is_some (key_in value)
accepts kind.Draw value = is_some (draw_in value)
accepts kind.Number value = is_some (number_in value)
accepts kind.Mode value = is_some (mode_in value)
