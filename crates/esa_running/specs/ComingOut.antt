-- What the load of a shuffle was given for the records of the batch, what became of them, and what comes out.
use Rattle.std.specs.Prelude.{◌≡◌, ◌≢◌, ℕ, ◌+◌, ◌*◌, All, IsPermutation, List, [], ◌∷◌, length, Option}
use Rattle.esa_analyser.specs.Opened.{database_of}
use Rattle.esa_batcher.specs.InFile.{records_of}
use Rattle.esa_crowds.specs.Kept.{forward}
use Rattle.esa_device.specs.Logs.{Carried, IsFaithful, NoneFailed, OnlyLastFailed}
use Rattle.esa_ending.specs.Endings.{ComesOut}
use Rattle.esa_ending.specs.Seen.{turns_in as turns_at}
use Rattle.esa_envelope.specs.declared.keys.Keys.{Keys}
use Rattle.esa_floor.specs.Written.{EachButLast, GaveWhatOpens, TookItsBlock}
use Rattle.esa_floor.specs.declared.turn.Outcome.{Outcome}
use Rattle.esa_floor.specs.declared.turn.Outcome.TheVariants as outcome
use Rattle.esa_header.specs.Header.{header_length}
use Rattle.esa_job.specs.declared.field.JobField.TheVariants as field
use Rattle.esa_lists.specs.Files.{Files}
use Rattle.esa_outside.specs.Heard.{Event, part_of}
use Rattle.esa_parallel.specs.Crews.{uncut_of}
use Rattle.esa_params.specs.Form.{envelope_length}
use Rattle.esa_refusal.specs.declared.status.DeviceAt.TheVariants.{Slot as AtSlot}
use Rattle.esa_refusal.specs.declared.status.Status.{Status}
use Rattle.esa_refusal.specs.declared.status.Status.TheVariants as status
use Rattle.esa_report.specs.declared.item.Item.{Item}
use Rattle.esa_scans.specs.Scans.{items_from}
use Rattle.esa_spec.specs.Histories.{lists}
use Rattle.esa_command.specs.Asked.{number_of}
use Rattle.esa_command.specs.Stand.{Stand}
use Rattle.esa_command.specs.Taking.{name_of}
use Rattle.esa_shuffle.specs.Loading.{IsGiven}
use Rattle.esa_shuffle.specs.Records.{IsShuffledFrom, IsWrittenFrom, record_at, records_given}
use Rattle.esa_running.specs.ByCrew.{IsByCrew}
use Rattle.esa_taking.specs.Run.{Asked}
use Rattle.esa_taking.specs.Wanted.{sizes_in, turns_by, block_keys, outer_keys, drop_key}

-- ---- what the load was given

-- the records of the batch, where the cabinet tells its files
abbrev pub batch_told : Asked → Option Files → Option (List (List ℕ))
batch_told asked told = records_of told (name_of asked.job field.Input) (header_length asked.batch.form) (envelope_length asked.batch.form) asked.batch.count

-- what is heard where these bytes are read of the batch from a record on: that part of its file, and nothing where no bytes
-- are asked for
abbrev pub batch_part : Asked → ℕ → List ℕ → List Event
batch_part asked first [] = []
batch_part asked first (byte ∷ bytes) =
    part_of (name_of asked.job field.Input) (header_length asked.batch.form + first * envelope_length asked.batch.form) (byte ∷ bytes) ∷ []

-- an attempt was begun
abbrev pub IsBegun : Asked → (history : List ℕ) → Type 0
IsBegun asked history = lists (sizes_in asked).workers history ≢ []

-- between two stands of the cabinet the load was given these bytes: the records of the first buckets of the batch, and of all
-- of them where an attempt was begun. They are the told ones, where the cabinet tells, and just these reads were heard
abbrev pub IsLoaded : Asked → (taken acted : Stand Files) → (history given : List ℕ) → Type 0
IsLoaded asked taken acted history given =
    IsGiven (sizes_in asked) (batch_told asked taken.told) (batch_part asked) taken.heard acted.heard (IsBegun asked history) given

-- ---- what became of them

-- the record of each place, by the bytes that the load was given: the item that the envelope of the place opens to
abbrev pub batch_record : Asked → (given : List ℕ) → ℕ → Item
batch_record asked given = record_at (sizes_in asked) (outer_keys asked) given

-- the records of the batch, by place
abbrev pub batch_records : Asked → (given : List ℕ) → List Item
batch_records asked given = records_given (sizes_in asked) (outer_keys asked) given

-- which accesses failed, by the status that is owed: none, or the last one alone, where the device failed at a slot
abbrev pub FailedByStatus : Status → List Carried → Type 0
FailedByStatus (status.DeviceFault (AtSlot number)) log = OnlyLastFailed log
FailedByStatus owed log = NoneFailed log

-- which reads gave blocks that open, by the status that is owed: all, but the last access, where the run stopped at it
abbrev pub ReadsBy : (Carried → Type 0) → Status → List Carried → Type 0
ReadsBy Fact (status.DeviceFault at) log = EachButLast Fact log
ReadsBy Fact (status.Tampered number) log = EachButLast Fact log
ReadsBy Fact owed log = All Fact log

-- however a shuffle ended: where the log of all its accesses is faithful, each write outside the input took the block that
-- the turns of its attempt make of the records of the batch. Whatever the device, each read gave a block that opens for its
-- slot, its attempt and the number of items that those turns put there
pub record Became (asked : Asked) (given history : List ℕ) (log : List Carried) (owed : Status) : Type 0 where
  pub took : IsFaithful (sizes_in asked) log
      → All (TookItsBlock (sizes_in asked) (block_keys asked) asked.draws (batch_record asked given) (turns_at (lists (sizes_in asked).workers history))) log
  pub failed : FailedByStatus owed log
  pub gave : ReadsBy (GaveWhatOpens (sizes_in asked) (block_keys asked) asked.draws (turns_at (lists (sizes_in asked).workers history))) owed log
  -- whatever the device did, the input was written from the bytes that the load was given, and it was given no others
  pub written : IsWrittenFrom (sizes_in asked) (block_keys asked) given log

-- ---- what comes out

-- what is kept of records: of each crowd as many are dropped as the drops say, and then each crowd that has fewer than t
abbrev pub kept_of : Asked → List Item → List (List ℕ)
kept_of asked records = forward asked.batch.form (drop_key asked) asked.drops (number_of asked.job field.T) records

-- the load was given the whole batch. Its records came out of an attempt, none lost or doubled, in the order of the
-- definition, and both scans of the output were given them. The envelopes are what is kept of them, and their database is that
-- of what is kept of the batch by place, whoever opens them
pub record AreOfBatch (asked : Asked) (attempt : ℕ) (history given : List ℕ) (first second envelopes : List (List ℕ)) : Type 0 where
  pub whole : length given ≡ envelope_length asked.batch.form * asked.batch.count
  pub out : List Item
  pub order : ComesOut (sizes_in asked) asked.draws (turns_by asked history) attempt (batch_records asked given) out
  pub permuted : IsPermutation (batch_records asked given) out
  pub first_scan : items_from (sizes_in asked) (block_keys asked) attempt 0 first ≡ out
  pub second_scan : items_from (sizes_in asked) (block_keys asked) attempt 0 second ≡ out
  pub kept : envelopes ≡ kept_of asked out
  pub database : (inner : Keys) → database_of inner envelopes ≡ database_of inner (kept_of asked (batch_records asked given))

-- ---- before the output is scanned

-- a shuffle with this outcome was made of the bytes that its load was given: whole envelopes, and all of the batch where it
-- succeeded. Where the job asks for a crew, it was made by one
pub record IsMadeOf (asked : Asked) (history : List ℕ) (log : List Carried) (o : Outcome) (given : List ℕ) : Type 0 where
  pub count : ℕ
  pub whole : length given ≡ envelope_length asked.batch.form * count
  pub all : (a : ℕ) → o ≡ outcome.Shuffled a → count ≡ asked.batch.count
  pub shuffled : IsShuffledFrom (sizes_in asked) asked.draws (turns_by asked history) (outer_keys asked) (block_keys asked) history log o given
  pub crew : IsByCrew asked history (uncut_of o)
