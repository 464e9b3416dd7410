-- The keys that a command needs are there.
use Rattle.std.proofs.Common.{◌≡◌, Bool, true, false, ◌&&◌, Option, Some, None, is_none, IsSome, refl}
use Rattle.std.specs.List.{AllByRecursion}
use Rattle.serde_json.specs.Data.{Data}
use Rattle.esa_job.specs.declared.command.Command.{Command}
use Rattle.esa_job.specs.declared.command.Command.TheVariants as command
use Rattle.esa_job.specs.declared.keys.KeyField.{KeyField}
use Rattle.esa_job.specs.declared.keys.KeyField.TheVariants.{Keys, Outer, Inner, Drop, Run, Share, Second}
use Rattle.esa_job.specs.Keys.{key_fields, needs_key, key_at, is_bad_key, first_bad_key, key_of, ring_of}
use Rattle.esa_job.proofs.Outcomes.{none_found}

-- no command needs the file as a key
never_needed : (command : Command) (shares : Bool) → needs_key command shares Keys ≡ true → ⊥
never_needed command.Encode shares needed = cc
never_needed command.Shuffle shares needed = cc
never_needed command.Run shares needed = cc
never_needed command.Relay shares needed = cc
never_needed command.Analyse shares needed = cc
never_needed _ shares needed = cc

is_there : {A : Type 0} (needed : Bool) (found : Option A) → (needed && is_none found) ≡ false → needed ≡ true → IsSome found
is_there true None good needed = cc
is_there true (Some x) good needed = refl
is_there false found good needed = cc

-- each key that is looked at is there where it is needed
all_there : (command : Command) (shares : Bool) (json : Data) → AllByRecursion (λ key. is_bad_key command shares json key ≡ false) key_fields → (key : KeyField) → needs_key command shares key ≡ true → IsSome (key_of (ring_of command shares json) key)
unfolding key_fields
all_there command shares json good Keys needed = absurd (never_needed command shares needed)
all_there command shares json good Outer needed = is_there (needs_key command shares Outer) (key_at command shares json Outer) good.0 needed
all_there command shares json good Inner needed = is_there (needs_key command shares Inner) (key_at command shares json Inner) good.1.0 needed
all_there command shares json good Drop needed = is_there (needs_key command shares Drop) (key_at command shares json Drop) good.1.1.0 needed
all_there command shares json good Run needed = is_there (needs_key command shares Run) (key_at command shares json Run) good.1.1.1.0 needed
all_there command shares json good Share needed = is_there (needs_key command shares Share) (key_at command shares json Share) good.1.1.1.1.0 needed
all_there command shares json good Second needed = is_there (needs_key command shares Second) (key_at command shares json Second) good.1.1.1.1.1.0 needed

pub key_of-needed : (command : Command) (shares : Bool) (json : Data) → first_bad_key command shares json ≡ None → (key : KeyField) → needs_key command shares key ≡ true → IsSome (key_of (ring_of command shares json) key)
unfolding first_bad_key
key_of-needed command shares json none = all_there command shares json (none_found (is_bad_key command shares json) key_fields none)
