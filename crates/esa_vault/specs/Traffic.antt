-- One access to the memory: what a recorder keeps of it, what it leaves in the slot, and what it answers.
use Rattle.std.specs.Prelude.{◌≡◌, ℕ, ◌+◌, ◌<◌, Bool, true, false, List, [], ◌∷◌, ◌++◌, length, slice_set, Option, Some, None, Result, Ok, Err, OnOk, OnErr, IsOk, slice_get, unwrap_or}
use Rattle.esa_device.specs.Blocks.{ChangesBlock}
use Rattle.esa_device.specs.Logs.{Carried, IsFaithful, NoneFailed, OnlyLastFailed, Took, carried_by}
use Rattle.esa_device.specs.Recording.{Recorded}
use Rattle.esa_envelope.specs.declared.keys.Keys.{Keys}
use Rattle.esa_params.specs.Sizes.{Sizes}
use Rattle.esa_params.specs.Slots.{access_of, number_of}
use Rattle.esa_params.specs.declared.slot.Op.{Op}
use Rattle.esa_params.specs.declared.slot.Op.TheVariants.{Read, Write}
use Rattle.esa_params.specs.declared.slot.Slot.{Slot}
use Rattle.esa_vault.specs.Seals.{is_text_of, opens, sealed_block, text_in}
use Rattle.esa_outside.specs.Cause.{Rose}
use Rattle.esa_vault.specs.declared.fault.VaultFault.{VaultFault}
use Rattle.esa_vault.specs.declared.fault.VaultFault.TheVariants.{Device, Tampered}

-- one access more was made, which took its room, and the log has what it carried
pub record OneMore {V : Type 0} (old new : Recorded V) (carried : Carried) : Type 0 where
  pub trace : new.trace ≡ old.trace ++ carried.access ∷ []
  pub log : new.log ≡ old.log ++ carried ∷ []
  pub room : old.room ≡ new.room + 1
  pub plan : new.plan ≡ old.plan

-- the told blocks after a write: its bytes stand in the slot, and after a failure any bytes do; all others are as they were
pub record Stores {T E : Type 0} (old new : Option (List (List ℕ))) (number : ℕ) (bytes : List ℕ) (result : Result T E) : Type 0 where
  pub there : (blocks : List (List ℕ)) → old ≡ Some blocks → number < length blocks
  pub written : (blocks : List (List ℕ)) → old ≡ Some blocks → OnOk result (new ≡ Some (slice_set blocks number bytes))
  pub failed : (blocks : List (List ℕ)) → old ≡ Some blocks → OnErr result (ChangesBlock blocks number new)
  pub silent : old ≡ None → new ≡ None

-- the answer to a write: Device with the slot's number, only where the count of faults rose
abbrev pub WriteAnswer : {T : Type 0} → ℕ → ℕ → ℕ → Result T VaultFault → Type 0
WriteAnswer number before now (Ok done) = now ≡ before
WriteAnswer number before now (Err (Device slot)) = (slot ≡ number) × Rose before now
WriteAnswer number before now (Err (Tampered slot)) = ⊥

-- the answer to a read, by whether the bytes that were given open: Device only where the count of faults rose, and
-- otherwise Ok where they open, and Tampered where they don't
abbrev pub ReadAnswer : {T : Type 0} → ℕ → ℕ → ℕ → Bool → Result T VaultFault → Type 0
ReadAnswer number before now opens (Ok done) = (opens ≡ true) × (now ≡ before)
ReadAnswer number before now opens (Err (Device slot)) = (slot ≡ number) × Rose before now
ReadAnswer number before now opens (Err (Tampered slot)) = (slot ≡ number) × (opens ≡ false) × (now ≡ before)

-- a fact, where the device gave bytes
abbrev pub OnGiven : {T : Type 0} → Result T VaultFault → Type 0 → Type 0
OnGiven (Ok done) fact = fact
OnGiven (Err (Device slot)) fact = Unit {0}
OnGiven (Err (Tampered slot)) fact = fact

-- a fact, where it failed
abbrev pub OnFault : {T : Type 0} → Result T VaultFault → Type 0 → Type 0
OnFault (Ok done) fact = Unit {0}
OnFault (Err (Device slot)) fact = fact
OnFault (Err (Tampered slot)) fact = Unit {0}

-- which accesses of a log failed, by the answer to the last one: none, or that one alone, where the device failed
abbrev pub FailedByFault : {T : Type 0} → Result T VaultFault → List Carried → Type 0
FailedByFault (Ok done) log = NoneFailed log
FailedByFault (Err (Device slot)) log = OnlyLastFailed log
FailedByFault (Err (Tampered slot)) log = NoneFailed log

-- the bytes that a read gave: also those that don't open
abbrev pub given_by : {T : Type 0} → Result T VaultFault → List ℕ → Option (List ℕ)
given_by (Ok done) bytes = Some bytes
given_by (Err (Device slot)) bytes = None
given_by (Err (Tampered slot)) bytes = Some bytes

-- what is ensured of writing a block for a slot in an attempt, by what the device tells and counts
pub record IsWritten {V T : Type 0} (told : V → Option (List (List ℕ))) (faults : V → ℕ) (last_call : V → Option (Op × ℕ)) (p : Sizes) (slot : Slot) (attempt : ℕ) (bytes : List ℕ) (old new : Recorded V) (result : Result T VaultFault) : Type 0 where
  pub recorded : OneMore old new (carried_by (access_of p attempt Write slot) result bytes)
  pub stored : Stores (told old.device) (told new.device) (number_of p slot) bytes result
  pub last : new.last ≡ old.last
  pub called : last_call new.device ≡ Some (Write, number_of p slot)
  pub answer : WriteAnswer (number_of p slot) (faults old.device) (faults new.device) result

-- what is ensured of reading a block for a slot in an attempt, by whether what was given opens
pub record IsRead {V T : Type 0} (told : V → Option (List (List ℕ))) (faults : V → ℕ) (last_call : V → Option (Op × ℕ)) (p : Sizes) (slot : Slot) (attempt : ℕ) (opens : List ℕ → Bool) (bytes : List ℕ) (old new : Recorded V) (result : Result T VaultFault) : Type 0 where
  pub recorded : OneMore old new (record { access = access_of p attempt Read slot; bytes = given_by result bytes })
  pub stays : told new.device ≡ told old.device
  pub called : last_call new.device ≡ Some (Read, number_of p slot)
  pub answer : ReadAnswer (number_of p slot) (faults old.device) (faults new.device) (opens new.last) result
  pub given : OnGiven result (new.last ≡ bytes)
  pub kept : OnFault result (new.last ≡ old.last)

-- what the text becomes by what was given
pub record IsOpenedTo {T : Type 0} (p : Sizes) (keys : Keys) (slot : Slot) (attempt : ℕ) (bytes before text : List ℕ) (result : Result T VaultFault) : Type 0 where
  pub given : OnGiven result (text ≡ unwrap_or (text_in p keys slot attempt bytes) before)
  pub kept : OnFault result (text ≡ before)

-- a text that was sealed for the slot in the attempt is got, and it is taken where it is one of so many items
pub record Gives {T : Type 0} (p : Sizes) (slot : Slot) (count : ℕ) (sealed text : List ℕ) (result : Result T VaultFault) : Type 0 where
  pub opened : OnGiven result (text ≡ sealed)
  pub taken : is_text_of p slot.region count sealed ≡ true → OnGiven result (IsOk result)

-- so it is where the log is faithful and the slot's latest write took the seal of the text
abbrev pub GivesLatest : {V T : Type 0} → Sizes → Keys → Slot → ℕ → ℕ → List ℕ → Recorded V → Recorded V → Result T VaultFault → Type 0
GivesLatest p keys slot attempt count text old new result =
    (sealed : List ℕ) → IsFaithful p new.log → Took p (number_of p slot) (sealed_block p keys slot attempt sealed) old.log
    → Gives p slot count sealed text result

-- over a device that tells, the bytes are those of the slot, and it gives the text that was sealed there
pub record GivesTold {T : Type 0} (p : Sizes) (keys : Keys) (slot : Slot) (attempt count : ℕ) (bytes text : List ℕ) (told : Option (List (List ℕ))) (result : Result T VaultFault) : Type 0 where
  pub held : (blocks : List (List ℕ)) → told ≡ Some blocks → OnGiven result (slice_get blocks (number_of p slot) ≡ Some bytes)
  pub gives : (blocks : List (List ℕ)) (sealed : List ℕ) → told ≡ Some blocks
      → slice_get blocks (number_of p slot) ≡ Some (sealed_block p keys slot attempt sealed) → Gives p slot count sealed text result
