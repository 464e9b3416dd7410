-- What is forwarded.
use Rattle.std.specs.Prelude.{◌≡◌, ◌*◌, ℕ, ◌+◌, List, ◌++◌, length, Option}
use Rattle.std.specs.List.{concat}
use Rattle.esa_crowds.specs.Entries.{entries}
use Rattle.esa_crowds.specs.Kept.{drops_in, sent_from}
use Rattle.esa_crowds.specs.Rows.{kept_at}
use Rattle.esa_device.specs.Recording.{Recorded}
use Rattle.esa_envelope.specs.declared.keys.Keys.{Keys}
use Rattle.esa_params.specs.Sizes.{Sizes}
use Rattle.esa_spec.specs.Traces.{scan}
use Rattle.esa_scans.specs.Scans.{AreOpen, carried_from, items_from}

-- what contracts see of the tables: the plan that they are for, and the bytes that are forwarded
pub record Tabled : Type 0 where
  pub plan : Sizes
  pub forward : List ℕ

-- what is sent, by what the two scans were given: the first decides which positions are kept
abbrev pub sent_of : Sizes → Keys → ℕ → List ℕ → List ℕ → ℕ → List (List ℕ) → List (List ℕ) → List (List ℕ)
sent_of p keys attempt key drops t first second =
    sent_from p.form (kept_at (drops_in key drops) t (entries p.form key (items_from p keys attempt 0 first))) 0 (items_from p keys attempt 0 second)

-- both scans read all blocks of the output, all that was given for them opens, and its kept records are forwarded
pub record HasForwarded {V : Type 0} (told : V → Option (List (List ℕ))) (faults : V → ℕ) (p : Sizes) (keys : Keys) (attempt : ℕ) (key drops : List ℕ) (t : ℕ) (old new : Recorded V) (forward : List ℕ) : Type 0 where
  pub first : List (List ℕ)
  pub second : List (List ℕ)
  pub whole_first : length first ≡ p.b
  pub whole_second : length second ≡ p.b
  pub trace : new.trace ≡ old.trace ++ (scan p attempt ++ scan p attempt)
  pub log : new.log ≡ old.log ++ (carried_from p attempt 0 first ++ carried_from p attempt 0 second)
  pub room : old.room ≡ new.room + 2 * p.b
  pub plan : new.plan ≡ old.plan
  pub stays : told new.device ≡ told old.device
  pub calm : faults new.device ≡ faults old.device
  pub opened_first : AreOpen p keys attempt 0 first
  pub opened_second : AreOpen p keys attempt 0 second
  pub sent : forward ≡ concat (sent_of p keys attempt key drops t first second)
