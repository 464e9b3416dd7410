-- The keys of a keys file, and which of them a command needs.
use Rattle.std.specs.Prelude.{ℕ, Bool, true, false, ◌&&◌, List, [], ◌∷◌, find, Option, Some, None, is_none, option_map, option_and_then, Result, Err, if◌then◌else◌}
use Rattle.serde_json.specs.Data.{Data}
use Rattle.serde_json.specs.Find.{get}
use Rattle.esa_json.specs.Object.{object_of}
use Rattle.esa_job.specs.declared.command.Command.{Command}
use Rattle.esa_job.specs.declared.command.Command.TheVariants as command
use Rattle.esa_job.specs.declared.keys.KeyField.{KeyField}
use Rattle.esa_job.specs.declared.keys.KeyField.TheVariants.{Keys, Outer, Inner, Drop, Run, Share, Second}
use Rattle.esa_job.specs.declared.keys.KeysRefused.{KeysRefused}
use Rattle.esa_job.specs.declared.keys.KeysRefused.TheVariants as refused
use Rattle.esa_job.specs.Refusal.{unless}
use Rattle.esa_job.specs.Values.{key_in}
use Rattle.esa_job.specs.Word.{key_word}

-- the order in which the keys are looked at
unfoldable pub key_fields : List KeyField
key_fields = Outer ∷ Inner ∷ Drop ∷ Run ∷ Share ∷ Second ∷ []

-- the columns of a row of the table, one for each key
abbrev pub key_columns : (outer inner drop run share second : Bool) → KeyField → Bool
key_columns outer inner drop run share second Keys = false
key_columns outer inner drop run share second Outer = outer
key_columns outer inner drop run share second Inner = inner
key_columns outer inner drop run share second Drop = drop
key_columns outer inner drop run share second Run = run
key_columns outer inner drop run share second Share = share
key_columns outer inner drop run share second Second = second

abbrev yes : Bool
yes = true

abbrev off : Bool
off = false

-- The keys that a command needs: outer, inner, drop, run, share and second. An encode job may have shares, which need
-- a key of their own.
abbrev pub needs_key : Command → Bool → KeyField → Bool
needs_key command.Encode shares =
    key_columns yes yes off off shares off
needs_key command.Shuffle shares =
    key_columns yes off yes yes off off
needs_key command.Run shares =
    key_columns yes yes yes yes off off
needs_key command.Relay shares =
    key_columns yes off off yes off yes
needs_key command.Analyse shares =
    key_columns off yes off off off off
needs_key _ shares = λ _. off

-- a key that is needed: nothing where it isn't there, or is no text of 64 hexadecimal digits
abbrev pub key_at : Command → Bool → Data → KeyField → Option (List ℕ)
key_at command shares json key =
    if needs_key command shares key then option_and_then key_in (get (key_word key) json) else None

abbrev pub is_bad_key : Command → Bool → Data → KeyField → Bool
is_bad_key command shares json key = needs_key command shares key && is_none (key_at command shares json key)

unfoldable pub first_bad_key : Command → Bool → Data → Option KeyField
first_bad_key command shares json = find (is_bad_key command shares json) key_fields

-- keys of 32 bytes
pub record Ring : Type 0 where
  pub outer : Option (List ℕ)
  pub inner : Option (List ℕ)
  pub drop_key : Option (List ℕ)
  pub run : Option (List ℕ)
  pub share : Option (List ℕ)
  pub second : Option (List ℕ)

-- the key of this name
abbrev pub key_of : Ring → KeyField → Option (List ℕ)
key_of ring Keys = None
key_of ring Outer = ring.outer
key_of ring Inner = ring.inner
key_of ring Drop = ring.drop_key
key_of ring Run = ring.run
key_of ring Share = ring.share
key_of ring Second = ring.second

-- the keys that the command needs, and no others
abbrev pub ring_of : Command → Bool → Data → Ring
ring_of command shares json = record {
  outer = key_at command shares json Outer;
  inner = key_at command shares json Inner;
  drop_key = key_at command shares json Drop;
  run = key_at command shares json Run;
  share = key_at command shares json Share;
  second = key_at command shares json Second;
}

abbrev pub read_keys : Command → Bool → Option Data → Result Ring KeysRefused
read_keys command shares None = Err (refused.Field Keys)
read_keys command shares (Some json) = unless (option_map refused.Field (first_bad_key command shares json)) (ring_of command shares json)

-- the keys of a keys file, or what it is refused for first
abbrev pub keys_of : Command → Bool → List ℕ → Result Ring KeysRefused
keys_of command shares bytes = read_keys command shares (object_of bytes)
