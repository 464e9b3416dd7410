-- The scans of a shuffler's output: what they read, what the blocks hold, and how they end.
use Rattle.std.specs.Prelude.{◌≡◌, ℕ, suc, ◌+◌, ◌<◌, true, All, List, [], ◌∷◌, ◌++◌, length, map, Option, Some, Result, unwrap_or}
use Rattle.esa_device.specs.Logs.{Carried}
use Rattle.esa_device.specs.Recording.{Recorded}
use Rattle.esa_envelope.specs.declared.keys.Keys.{Keys}
use Rattle.esa_params.specs.Sizes.{Sizes, below, size}
use Rattle.esa_params.specs.Slots.{at, item_length, number_of}
use Rattle.esa_params.specs.declared.slot.Access.{Access}
use Rattle.esa_params.specs.declared.slot.Region.TheVariants.{Output}
use Rattle.esa_report.specs.declared.item.Item.{Item}
use Rattle.esa_spec.specs.Traces.{read_output}
use Rattle.esa_vault.specs.Seals.{opens, text_in}
use Rattle.esa_vault.specs.Traffic.{ReadAnswer, given_by}
use Rattle.esa_vault.specs.declared.fault.VaultFault.{VaultFault}
use Rattle.esa_scans.specs.Held.{items_in}

-- the reads of the first n blocks of the output
abbrev pub reads : Sizes → ℕ → ℕ → List Access
reads p attempt n = map (read_output p attempt) (below n)

-- the text of bytes that are given for a block of the output
abbrev pub text_given : Sizes → Keys → ℕ → ℕ → List ℕ → List ℕ
text_given p keys attempt j bytes = unwrap_or (text_in p keys (at Output j) attempt bytes) []

-- and its items
abbrev pub items_of : Sizes → Keys → ℕ → ℕ → List ℕ → List Item
items_of p keys attempt j bytes = items_in (item_length p.form) (size p j) (text_given p keys attempt j bytes)

-- the bytes open for the block
abbrev pub is_open : Sizes → Keys → ℕ → ℕ → List ℕ → Type 0
is_open p keys attempt j bytes = opens p keys (at Output j) attempt (size p j) bytes ≡ true

-- the items of what is given for the blocks from block j on
abbrev pub items_from : Sizes → Keys → ℕ → ℕ → List (List ℕ) → List Item
items_from p keys attempt j [] = []
items_from p keys attempt j (bytes ∷ given) = items_of p keys attempt j bytes ++ items_from p keys attempt (suc j) given

-- all of it opens
abbrev pub AreOpen : Sizes → Keys → ℕ → ℕ → List (List ℕ) → Type 0
AreOpen p keys attempt j [] = Unit {0}
AreOpen p keys attempt j (bytes ∷ given) = is_open p keys attempt j bytes × AreOpen p keys attempt (suc j) given

-- what the log has of it
abbrev pub carried_from : Sizes → ℕ → ℕ → List (List ℕ) → List Carried
carried_from p attempt j [] = []
carried_from p attempt j (bytes ∷ given) = record { access = read_output p attempt j; bytes = Some bytes } ∷ carried_from p attempt (suc j) given

-- the first blocks of the output were read, and what was given for them opens
pub record HasRead {V : Type 0} (told : V → Option (List (List ℕ))) (faults : V → ℕ) (p : Sizes) (keys : Keys) (attempt : ℕ) (given : List (List ℕ)) (old new : Recorded V) : Type 0 where
  pub trace : new.trace ≡ old.trace ++ reads p attempt (length given)
  pub log : new.log ≡ old.log ++ carried_from p attempt 0 given
  pub room : old.room ≡ new.room + length given
  pub plan : new.plan ≡ old.plan
  pub stays : told new.device ≡ told old.device
  pub calm : faults new.device ≡ faults old.device
  pub opened : AreOpen p keys attempt 0 given

-- an access gave bytes that open for its block
abbrev pub GaveOpen : Sizes → Keys → ℕ → Carried → Type 0
GaveOpen p keys attempt entry = (bytes : List ℕ) × (entry.bytes ≡ Some bytes) × is_open p keys attempt entry.access.index bytes

-- what the log has of a scan that ended with the read of block j: all that these accesses and the reads before it gave
-- opens, and the last entry is that read
pub record EndsLog {T : Type 0} (p : Sizes) (keys : Keys) (attempt : ℕ) (before : List Access) (j : ℕ) (old new : List Carried) (last : List ℕ) (result : Result T VaultFault) : Type 0 where
  pub passed : List Carried
  pub accesses : map (λ (entry : Carried). entry.access) passed ≡ before ++ reads p attempt j
  pub opened : All (GaveOpen p keys attempt) passed
  pub log : new ≡ old ++ (passed ++ record { access = read_output p attempt j; bytes = given_by result last } ∷ [])

-- after these accesses a scan ended with the read of block j: the device failed, or what it gave doesn't open
pub record FailsAt {V T : Type 0} (told : V → Option (List (List ℕ))) (faults : V → ℕ) (p : Sizes) (keys : Keys) (attempt : ℕ) (before : List Access) (j : ℕ) (old new : Recorded V) (result : Result T VaultFault) : Type 0 where
  pub inside : j < p.b
  pub trace : new.trace ≡ old.trace ++ (before ++ reads p attempt (j + 1))
  pub log : EndsLog p keys attempt before j old.log new.log new.last result
  pub plan : new.plan ≡ old.plan
  pub stays : told new.device ≡ told old.device
  pub answer : ReadAnswer (number_of p (at Output j)) (faults old.device) (faults new.device) (opens p keys (at Output j) attempt (size p j) new.last) result
