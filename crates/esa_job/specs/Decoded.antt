-- What a job keeps of the value of a field: what the value stands for, by the field's kind.
use Rattle.std.specs.Prelude.{ℕ, List, map, Option, option_map, option_and_then, string_bytes}
use Rattle.std.specs.List.{filter_map}
use Rattle.serde_json.specs.Data.{Data}
use Rattle.esa_json.specs.Values.{values_in, number_in}
use Rattle.esa_params.specs.declared.draw.Draw.{Draw}
use Rattle.esa_job.specs.declared.decoded.Decoded.{Decoded}
use Rattle.esa_job.specs.declared.decoded.Decoded.TheVariants as kept
use Rattle.esa_job.specs.declared.field.JobField.{JobField}
use Rattle.esa_job.specs.declared.field.Kind.{Kind}
use Rattle.esa_job.specs.declared.field.Kind.TheVariants as kind
use Rattle.esa_job.specs.declared.value.Mode.{Mode}
use Rattle.esa_job.specs.Request.{Request, value_at}
use Rattle.esa_job.specs.Table.{fields, kind_of}
use Rattle.esa_job.specs.Values.{name_in, key_in, draw_in, mode_in}

-- what a value stands for
pub data Meaning : Type 0 where
  name : List ℕ → Meaning
  names : List (List ℕ) → Meaning
  seed : List ℕ → Meaning
  draw : Draw → Meaning
  number : ℕ → Meaning
  mode : Mode → Meaning

-- what a value of this kind stands for: nothing where it isn't of this kind
abbrev pub meaning_in : Kind → Data → Option Meaning
meaning_in kind.Name value = option_map name (name_in value)
meaning_in kind.Names value = option_map (λ values. names (filter_map name_in values)) (values_in value)
meaning_in kind.Seed value = option_map seed (key_in value)
meaning_in kind.Draw value = option_map draw (draw_in value)
meaning_in kind.Number value = option_map number (number_in value)
meaning_in kind.Mode value = option_map mode (mode_in value)

-- what the value of a field stands for
abbrev pub meaning_at : Request → JobField → Option Meaning
meaning_at job field = option_and_then (meaning_in (kind_of field)) (value_at job field)

-- what contracts see in a kept value
abbrev pub seen : Decoded → Meaning
seen (kept.Name text) = name (string_bytes text)
seen (kept.Names texts) = names (map string_bytes texts.items)
seen (kept.Seed bytes) = seed bytes
seen (kept.Draw of_draw) = draw of_draw
seen (kept.Number of_number) = number of_number
seen (kept.Mode of_mode) = mode of_mode

-- the kept values are those of the fields, in the order of the table
abbrev pub meanings : Request → List (Option Meaning)
meanings job = map (meaning_at job) fields
