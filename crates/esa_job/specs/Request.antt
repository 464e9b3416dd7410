-- What a job asks for: the values of its fields.
use Rattle.std.specs.Prelude.{ℕ, Bool, true, false, List, [], Option, None, is_some, unwrap_or, option_and_then, if◌then◌else◌}
use Rattle.std.specs.List.{filter_map}
use Rattle.serde_json.specs.Data.{Data}
use Rattle.serde_json.specs.Find.{get}
use Rattle.esa_json.specs.Values.{values_in, number_in}
use Rattle.esa_params.specs.declared.draw.Draw.{Draw}
use Rattle.esa_job.specs.declared.command.Command.{Command}
use Rattle.esa_job.specs.declared.field.JobField.{JobField}
use Rattle.esa_job.specs.declared.field.JobField.TheVariants as the
use Rattle.esa_job.specs.declared.field.Need.{Need}
use Rattle.esa_job.specs.declared.field.Need.TheVariants.{Unused, Optional, Needed}
use Rattle.esa_job.specs.declared.value.Mode.{Mode}
use Rattle.esa_job.specs.Table.{field_word, need_of}
use Rattle.esa_job.specs.Values.{name_in, key_in, draw_in, mode_in}

-- a job: its command, and the JSON object that its file is
pub record Request : Type 0 where
  pub command : Command
  pub object : Data

abbrev pub is_used : Need → Bool
is_used Unused = false
is_used Optional = true
is_used Needed = true

abbrev pub is_needed : Need → Bool
is_needed Unused = false
is_needed Optional = false
is_needed Needed = true

-- the value of a field: nothing where it isn't there, or where the command ignores it
abbrev pub value_at : Request → JobField → Option Data
value_at job field = if is_used (need_of field job.command) then get (field_word field) job.object else None

abbrev pub is_there : Request → JobField → Bool
is_there job field = is_some (value_at job field)

-- the value of a field, as what it stands for
abbrev pub name_at : Request → JobField → Option (List ℕ)
name_at job field = option_and_then name_in (value_at job field)

abbrev pub number_at : Request → JobField → Option ℕ
number_at job field = option_and_then number_in (value_at job field)

abbrev pub seed_at : Request → Option (List ℕ)
seed_at job = option_and_then key_in (value_at job the.Seed)

abbrev pub draw_at : Request → Option Draw
draw_at job = option_and_then draw_in (value_at job the.Draw)

abbrev pub mode_at : Request → Option Mode
mode_at job = option_and_then mode_in (value_at job the.Mode)

-- the values of the list of inputs
abbrev pub list_at : Request → List Data
list_at job = unwrap_or (option_and_then values_in (value_at job the.Inputs)) []

-- the names of the inputs
abbrev pub inputs_at : Request → List (List ℕ)
inputs_at job = filter_map name_in (list_at job)
