-- Blocks that are read and opened to items, one by one and for a whole import.
use Rattle.std.specs.Prelude.{◌≡◌, ℕ, ◌+◌, ◌-◌, ◌<◌, ◌≤◌, nat_lt, if◌then◌else◌, true, false, Some, List, [], ◌∷◌, ◌++◌, All, length, take, slice_index, Result, Ok, Err, OnOk}
use Rattle.esa_compress.specs.Held.{held_count}
use Rattle.esa_device.specs.Logs.{Carried, IsFaithful, NoneFailed, Took}
use Rattle.esa_device.specs.Recording.{Recorded}
use Rattle.esa_envelope.specs.declared.keys.Keys.{Keys}
use Rattle.esa_floor.specs.Written.{EachUntil}
use Rattle.esa_outside.specs.Cause.{Rose}
use Rattle.esa_params.specs.Sizes.{Sizes}
use Rattle.esa_params.specs.Slots.{access_of, at, item_length, number_of}
use Rattle.esa_params.specs.declared.slot.Access.{Access}
use Rattle.esa_params.specs.declared.slot.Op.TheVariants.{Read as Reads}
use Rattle.esa_params.specs.declared.slot.Region.TheVariants.{Tail}
use Rattle.esa_params.specs.declared.slot.Slot.{Slot}
use Rattle.esa_report.specs.declared.item.Item.{Item}
use Rattle.esa_spec.specs.Traces.{chunk_slot, import_reads}
use Rattle.esa_stash.specs.Stash.{padded}
use Rattle.esa_vault.specs.Placed.{IsSpelled}
use Rattle.esa_vault.specs.Seals.{opens}
use Rattle.esa_vault.specs.Traffic.{FailedByFault}
use Rattle.esa_vault.specs.declared.fault.VaultFault.{VaultFault}
use Rattle.esa_vault.specs.declared.fault.VaultFault.TheVariants.{Device, Tampered}
use Rattle.esa_press.specs.Records.{AreRecords, sealed_records}

-- the latest write of the slot took the block of n items of these records for the attempt
pub record IsStored (p : Sizes) (keys : Keys) (slot : Slot) (attempt n : ℕ) (log : List Carried) (records : List Item) : Type 0 where
  pub fit : AreRecords (item_length p.form) n records
  pub took : Took p (number_of p slot) (sealed_records p keys slot attempt n records) log

-- so it is with the chunks for the target i, by the number of their bucket, and with its tail
pub record AreStored (p : Sizes) (keys : Keys) (attempt i : ℕ) (log : List Carried) (chunks : ℕ → List Item) (tail : List Item) : Type 0 where
  pub chunk : (j : ℕ) → j < p.b → IsStored p keys (chunk_slot p j i) attempt p.c log (chunks j)
  pub left : IsStored p keys (at Tail i) attempt p.k log tail

-- where the log is faithful, the items that are got are the records that were stored, with dummies behind them
abbrev pub GivesRecords : {V T : Type 0} → Sizes → Keys → Slot → ℕ → List Item → Recorded V → Recorded V → Result T VaultFault → Type 0
GivesRecords p keys slot attempt items old new result =
    (records : List Item) → IsFaithful p new.log → IsStored p keys slot attempt (length items) old.log records
    → OnOk result (items ≡ padded (length items) records)

-- what is ensured of the items that are got: as many as are counted are no dummies, and bytes can spell each
pub record AreGot {V T : Type 0} (p : Sizes) (keys : Keys) (slot : Slot) (attempt count : ℕ) (items : List Item) (old new : Recorded V) (result : Result T VaultFault) : Type 0 where
  pub counted : OnOk result (held_count items ≡ count)
  pub spelled : OnOk result (All (IsSpelled (item_length p.form)) items)
  pub gives : GivesRecords p keys slot attempt items old new result

-- the block of part x of the import of the target i: the chunk of bucket x, and behind the chunks the tail
abbrev pub part_slot : Sizes → ℕ → ℕ → Slot
part_slot p i x = if nat_lt x p.b then chunk_slot p x i else at Tail i

-- a log goes on with reads alone
pub record GoesOnReading (old new : List Carried) : Type 0 where
  pub more : List Carried
  pub longer : new ≡ old ++ more
  pub reads : All (λ (entry : Carried). entry.access.op ≡ Reads) more

-- the log goes on with reads, and the last of them gave these bytes
pub record GivesAtLast (access : Access) (last : List ℕ) (old new : List Carried) : Type 0 where
  pub before : List Carried
  pub reads : GoesOnReading old before
  pub is : new ≡ before ++ record { access = access; bytes = Some last } ∷ []

-- a fact, where a block was given that doesn't open
abbrev pub OnUnopened : {T : Type 0} → Result T VaultFault → Type 0 → Type 0
OnUnopened (Ok done) fact = Unit {0}
OnUnopened (Err (Device number)) fact = Unit {0}
OnUnopened (Err (Tampered number)) fact = fact

-- how the reads of an import end: so many were made. Where the last of them failed, or gave a block that doesn't open for
-- the count of its items, it is that of its slot
abbrev pub FetchAnswer : {T : Type 0} → Sizes → Keys → ℕ → ℕ → List ℕ → ℕ → ℕ → List ℕ → ℕ → ℕ → Result T VaultFault → Type 0
FetchAnswer p keys attempt i counts before now last most made (Ok done) = (made ≡ most) × (now ≡ before)
FetchAnswer p keys attempt i counts before now last most made (Err (Device number)) =
    (x : ℕ) × (made ≡ x + 1) × (number ≡ number_of p (part_slot p i x)) × Rose before now
FetchAnswer p keys attempt i counts before now last most made (Err (Tampered number)) =
    (x : ℕ) × (made ≡ x + 1) × (number ≡ number_of p (part_slot p i x))
    × (opens p keys (part_slot p i x) attempt (slice_index counts x) last ≡ false) × (now ≡ before)

-- a read of a part of the import of the target i gave bytes, and they open for the count of its items
pub record GavePart (p : Sizes) (keys : Keys) (attempt i : ℕ) (counts : List ℕ) (entry : Carried) : Type 0 where
  pub part : ℕ
  pub inside : part < p.b + 1
  pub bytes : List ℕ
  pub is : entry ≡ record { access = access_of p attempt Reads (part_slot p i part); bytes = Some bytes }
  pub opened : opens p keys (part_slot p i part) attempt (slice_index counts part) bytes ≡ true

-- what is ensured of reading the first parts of the import of the target i, up to the first that is not got
pub record IsFetched {V T : Type 0} (faults : V → ℕ) (p : Sizes) (keys : Keys) (attempt i : ℕ) (counts : List ℕ) (most : ℕ) (old new : Recorded V) (result : Result T VaultFault) : Type 0 where
  pub made : ℕ
  pub few : made ≤ most
  pub trace : new.trace ≡ old.trace ++ take made (import_reads p attempt i)
  pub log : GoesOnReading old.log new.log
  pub gave : EachUntil (GavePart p keys attempt i counts) result log.more
  pub failed : NoneFailed old.log → FailedByFault result new.log
  pub room : old.room ≡ new.room + made
  pub plan : new.plan ≡ old.plan
  pub given : OnUnopened result (GivesAtLast (access_of p attempt Reads (part_slot p i (made - 1))) new.last old.log new.log)
  pub answer : FetchAnswer p keys attempt i counts (faults old.device) (faults new.device) new.last most made result
