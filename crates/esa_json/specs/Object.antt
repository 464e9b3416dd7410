-- The JSON object that a file's bytes are.
use Rattle.std.specs.Prelude.{ℕ, List, Option, Some, None, is_some, option_and_then, if◌then◌else◌}
use Rattle.std.specs.Str.{is_utf8}
use Rattle.serde_json.specs.Data.{Data}
use Rattle.serde_json.specs.Find.{as_object}
use Rattle.serde_json.specs.Read.{read}

-- what the bytes are as a JSON text: nothing where they are no UTF-8
unfoldable pub json_of : List ℕ → Option Data
json_of bytes = if is_utf8 bytes then read bytes else None

-- the value, if it is an object
abbrev pub if_object : Data → Option Data
if_object value = if is_some (as_object value) then Some value else None

-- the object that the bytes are, if they are one
abbrev pub object_of : List ℕ → Option Data
object_of bytes = option_and_then if_object (json_of bytes)
