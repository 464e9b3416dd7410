-- What becomes of the records of a batch.
use Rattle.std.specs.Prelude.{◌≡◌, ℕ, ◌*◌, ◌&&◌, Bool, true, false, List, All, Some, length, map, count_by}
use Rattle.esa_device.specs.Logs.{Carried, IsFaithful, NoneFailed, OnlyLastFailed}
use Rattle.esa_ending.specs.Seen.{turns_in}
use Rattle.esa_envelope.specs.declared.keys.Keys.{Keys}
use Rattle.esa_floor.specs.Private.{item_opened}
use Rattle.esa_floor.specs.Written.{EachButLast, GaveItsBlock, TookItsBlock}
use Rattle.esa_floor.specs.declared.turn.Outcome.{Outcome}
use Rattle.esa_floor.specs.declared.turn.Outcome.TheVariants as outcome
use Rattle.esa_load.specs.Loads.{bucket_text}
use Rattle.esa_params.specs.Form.{envelope_length}
use Rattle.esa_params.specs.Sizes.{Sizes, below, first}
use Rattle.esa_params.specs.Slots.{at, is_writing}
use Rattle.esa_params.specs.declared.slot.Access.{Access}
use Rattle.esa_params.specs.declared.slot.Region.{Region}
use Rattle.esa_params.specs.declared.slot.Region.TheVariants.{Input, Mid, Tail, Output}
use Rattle.esa_press.specs.Contents.{AreOutputsStored}
use Rattle.esa_report.specs.declared.item.Item.{Item}
use Rattle.esa_spec.specs.Draws.{Draw}
use Rattle.esa_spec.specs.Histories.{lists}
use Rattle.esa_vault.specs.Seals.{sealed_block}

-- the record of each place, by the bytes that a batch gave: the item that the envelope of the place opens to
abbrev pub record_at : Sizes → Keys → List ℕ → ℕ → Item
record_at p outer given = item_opened outer (envelope_length p.form) given

-- which accesses of a run failed, by its outcome: none, or the last one alone, where the device failed
abbrev pub FailedByOutcome : Outcome → List Carried → Type 0
FailedByOutcome (outcome.Shuffled a) log = NoneFailed log
FailedByOutcome outcome.Overflow log = NoneFailed log
FailedByOutcome (outcome.DeviceFault number) log = OnlyLastFailed log
FailedByOutcome (outcome.Tampered number) log = NoneFailed log
FailedByOutcome outcome.BatchFailed log = NoneFailed log

-- a region is the input
abbrev pub is_input : Region → Bool
is_input Input = true
is_input Mid = false
is_input Tail = false
is_input Output = false

-- an access writes a block of the input
abbrev pub writes_input : Access → Bool
writes_input access = is_writing access.op && is_input access.region

-- how many writes of the input a log has
abbrev pub inputs_written : List Carried → ℕ
inputs_written log = count_by (λ (entry : Carried). writes_input entry.access) log

-- a write of the input took the seal of what was given for its bucket, unless it failed
abbrev pub TookItsBucket : Sizes → Keys → List ℕ → Carried → Type 0
TookItsBucket p run given entry =
    (bytes : List ℕ) → writes_input entry.access ≡ true → entry.bytes ≡ Some bytes
    → bytes ≡ sealed_block p run (at Input entry.access.index) 0 (bucket_text p given entry.access.index)

-- the input was written from these bytes, whatever the device did: each write of it took the block of its bucket, and the
-- bytes are the records of as many buckets as writes of it were asked for
pub record IsWrittenFrom (p : Sizes) (run : Keys) (given : List ℕ) (log : List Carried) : Type 0 where
  pub took : All (TookItsBucket p run given) log
  pub count : length given ≡ envelope_length p.form * first p (inputs_written log)

-- which reads of a run gave their blocks, by its outcome: all, but the last access where the run stopped at it
abbrev pub ReadsOf : (Carried → Type 0) → Outcome → List Carried → Type 0
ReadsOf Fact (outcome.Shuffled a) log = All Fact log
ReadsOf Fact outcome.Overflow log = All Fact log
ReadsOf Fact (outcome.DeviceFault number) log = EachButLast Fact log
ReadsOf Fact (outcome.Tampered number) log = EachButLast Fact log
ReadsOf Fact outcome.BatchFailed log = All Fact log

-- what a run with this outcome made of the bytes that its batch gave, where the log of its accesses is faithful: hs are the
-- turns of its attempts, and those that were made are in the history
pub record IsShuffledFrom (p : Sizes) (ds : ℕ → Draw) (hs : List (List ℕ)) (outer run : Keys) (history : List ℕ) (log : List Carried) (o : Outcome) (given : List ℕ) : Type 0 where
  -- the latest write of each block of the output took the seal of the records of its places, in order, in the attempt that
  -- succeeded
  pub output : (a : ℕ) → o ≡ outcome.Shuffled a → IsFaithful p log → AreOutputsStored p run (ds a) (turns_in hs a) a (record_at p outer given) p.b log
  -- however the run ended, each write took the block that the turns of its attempt make of the records. No access failed but
  -- the last one, where the device failed
  pub took : IsFaithful p log → All (TookItsBlock p run ds (record_at p outer given) (turns_in (lists p.workers history))) log
  pub failed : FailedByOutcome o log
  -- of the input that is so whatever the device did
  pub written : IsWrittenFrom p run given log
  -- and each read gave its block, whether the log is faithful or not
  pub gave : ReadsOf (GaveItsBlock p run ds (turns_in (lists p.workers history))) o log

-- the records of the batch, by the bytes that it gave
abbrev pub records_given : Sizes → Keys → List ℕ → List Item
records_given p outer given = map (record_at p outer given) (below p.n)
