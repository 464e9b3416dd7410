-- What the writes of a run took, of every attempt: the seals of the records of their blocks. And what its reads gave:
-- blocks that open.
use Rattle.std.specs.Prelude.{◌≡◌, ◌≢◌, ℕ, ◌+◌, ◌/◌, ◌%◌, ◌<◌, ◌≤◌, ◌==◌, true, List, [], All, Option, Some, None, Result, Ok, Err, count_by, length, map, slice_index_or}
use Rattle.esa_device.specs.Logs.{Carried, NoneFailed, OnlyLastFailed, latest_carried}
use Rattle.esa_envelope.specs.declared.keys.Keys.{Keys}
use Rattle.esa_params.specs.Sizes.{Sizes}
use Rattle.esa_params.specs.Slots.{IsPlanned, at, item_length, number_of, slot_number}
use Rattle.esa_params.specs.declared.slot.Access.{Access}
use Rattle.esa_params.specs.declared.slot.Op.TheVariants.{Read as Reads, Write as Writes}
use Rattle.esa_params.specs.declared.slot.Region.{Region}
use Rattle.esa_params.specs.declared.slot.Region.TheVariants.{Input, Mid, Tail, Output}
use Rattle.esa_params.specs.declared.slot.Slot.{Slot}
use Rattle.esa_report.specs.declared.item.Item.{Item}
use Rattle.esa_spec.specs.Draws.{Draw}
use Rattle.esa_spec.specs.Fronts.{items_in}
use Rattle.esa_spec.specs.Histories.{parts}
use Rattle.esa_spec.specs.Lines.{chunk, tail}
use Rattle.esa_spec.specs.Places.{exchange_of, output_places}
use Rattle.esa_spec.specs.Turns.{order}
use Rattle.esa_stash.specs.Stash.{padded}
use Rattle.esa_vault.specs.Filled.{text_of}
use Rattle.esa_vault.specs.Placed.{IsHeld, IsSpelled}
use Rattle.esa_vault.specs.Seals.{opens, sealed_block}
use Rattle.esa_floor.specs.Keeping.{HasInput}
use Rattle.esa_floor.specs.Parts.{Parts}
use Rattle.esa_floor.specs.declared.turn.Outcome.{Outcome}
use Rattle.esa_floor.specs.declared.turn.Outcome.TheVariants as outcome
use Rattle.esa_floor.specs.declared.turn.Stop.{Stop}
use Rattle.esa_floor.specs.declared.turn.Stop.TheVariants.{DeviceFault, StashOverflow, Tampered}

-- the item of each place is no dummy, and so many bytes spell it
pub record AreItems (size : ℕ) (record_of : ℕ → Item) : Type 0 where
  pub held : (x : ℕ) → IsHeld (record_of x)
  pub spelled : (x : ℕ) → IsSpelled size (record_of x)

-- the turns of an attempt: those from its owner's entry on, up to the next one
abbrev pub attempt_turns : {V : Type 0} → Parts V → ℕ → List ℕ
attempt_turns f a = slice_index_or (parts f.plan.workers f.history) (a + 1) []

-- the items of the block at an index of a region, in an attempt with the turns h. A chunk and a tail have the records of
-- their places, with dummies behind them, and an output bucket those of its places, in order. The input has envelopes
abbrev pub block_items : Sizes → Draw → (ℕ → Item) → List ℕ → Region → ℕ → List Item
block_items p d record_of h Input index = []
block_items p d record_of h Mid index = padded p.c (map record_of (chunk p d (order p.b h) (exchange_of (order p.b h) (index / p.b)) (index % p.b)))
block_items p d record_of h Tail index = padded p.k (map record_of (tail p d (order p.b h) index))
block_items p d record_of h Output index = map record_of (output_places p d h index)

-- the buckets from which the block has its records were exchanged: that of the chunk, or all of them
abbrev pub AreExchanged : Sizes → List ℕ → Region → ℕ → Type 0
AreExchanged p h Input index = Unit {0}
AreExchanged p h Mid index = 1 ≤ count_by (λ k. k == index / p.b) (order p.b h)
AreExchanged p h Tail index = (j : ℕ) → j < p.b → 1 ≤ count_by (λ k. k == j) (order p.b h)
AreExchanged p h Output index = (j : ℕ) → j < p.b → 1 ≤ count_by (λ k. k == j) (order p.b h)

-- the bytes are the block of an access, in an attempt with the turns h: the seal of its items for its slot and its attempt.
-- No turn more changes it, since what it is made of was exchanged
pub record IsBlock (p : Sizes) (run : Keys) (d : Draw) (record_of : ℕ → Item) (h : List ℕ) (access : Access) (bytes : List ℕ) : Type 0 where
  pub exchanged : AreExchanged p h access.region access.index
  pub sealed : bytes
      ≡ sealed_block p run (at access.region access.index) access.attempt (text_of (item_length p.form) (block_items p d record_of h access.region access.index))

-- a write names a slot of the plan. Outside the input it took the block of its access, unless it failed, by the draw and
-- the turns of its attempt
pub record TookItsBlock (p : Sizes) (run : Keys) (ds : ℕ → Draw) (record_of : ℕ → Item) (turns : ℕ → List ℕ) (entry : Carried) : Type 0 where
  pub planned : entry.access.op ≡ Writes → IsPlanned p (at entry.access.region entry.access.index)
  pub took : (bytes : List ℕ) → entry.access.op ≡ Writes → entry.access.region ≢ Input → entry.bytes ≡ Some bytes
      → IsBlock p run (ds entry.access.attempt) record_of (turns entry.access.attempt) entry.access bytes

-- so did each write of the log, where a batch with these records was loaded
abbrev pub EachTookItsBlock : {V : Type 0} → (ℕ → Draw) → (ℕ → Item) → Parts V → Type 0
EachTookItsBlock ds record_of f = HasInput f record_of → All (TookItsBlock f.plan f.run ds record_of (attempt_turns f)) f.recorder.log

-- an access to a block of the input
pub record IsOfInput (p : Sizes) (entry : Carried) : Type 0 where
  pub region : entry.access.region ≡ Input
  pub planned : entry.access.index < p.b

-- a write of one
pub record WritesInput (p : Sizes) (entry : Carried) : Type 0 where
  pub of : IsOfInput p entry
  pub writes : entry.access.op ≡ Writes

-- the latest write of a slot is this access, and took these bytes
abbrev pub IsLatest : {V : Type 0} → Parts V → Slot → Access → List ℕ → Type 0
IsLatest f slot access bytes = latest_carried f.plan (number_of f.plan slot) f.recorder.log ≡ Some (record { access = access; bytes = Some bytes })

-- the block of the tail of the target i in an attempt with this order of exchanges: the seal of the records of its places,
-- with dummies behind them
abbrev pub tail_seal : Sizes → Keys → ℕ → Draw → (ℕ → Item) → List ℕ → ℕ → List ℕ
tail_seal p run a d record_of o i = sealed_block p run (at Tail i) a (text_of (item_length p.form) (padded p.k (map record_of (tail p d o i))))

-- the block of output bucket j in an attempt with the turns h: the seal of the records of its places, in order
abbrev pub output_seal : Sizes → Keys → ℕ → Draw → (ℕ → Item) → List ℕ → ℕ → List ℕ
output_seal p run a d record_of h j = sealed_block p run (at Output j) a (text_of (item_length p.form) (map record_of (output_places p d h j)))

-- a read gave bytes, and they open for its slot and its attempt, with so many items before the dummies as the turns of the
-- attempt put there
abbrev pub GaveWhatOpens : Sizes → Keys → (ℕ → Draw) → (ℕ → List ℕ) → Carried → Type 0
GaveWhatOpens p run ds turns entry =
    entry.access.op ≡ Reads → (bytes : List ℕ) × (entry.bytes ≡ Some bytes)
    × (opens p run (at entry.access.region entry.access.index) entry.access.attempt
    (items_in p (ds entry.access.attempt) (order p.b (turns entry.access.attempt)) entry.access) bytes ≡ true)

-- no turn more changes that, since what the items come from was exchanged
pub record GaveItsBlock (p : Sizes) (run : Keys) (ds : ℕ → Draw) (turns : ℕ → List ℕ) (entry : Carried) : Type 0 where
  pub exchanged : entry.access.op ≡ Reads → AreExchanged p (turns entry.access.attempt) entry.access.region entry.access.index
  pub opened : GaveWhatOpens p run ds turns entry

-- so it is with an access of a floor
abbrev pub GaveItsOwn : {V : Type 0} → (ℕ → Draw) → Parts V → Carried → Type 0
GaveItsOwn ds f = GaveItsBlock f.plan f.run ds (attempt_turns f)

-- a fact of each access of a log but the last
abbrev pub EachButLast : (Carried → Type 0) → List Carried → Type 0
EachButLast Fact log = (x : ℕ) (entry : Carried) → x + 1 < length log → Fact (slice_index_or log x entry)

-- a fact of each access of a log, or of each but the last, where the last one ended it
abbrev pub EachUntil : {T E : Type 0} → (Carried → Type 0) → Result T E → List Carried → Type 0
EachUntil Fact (Ok done) log = All Fact log
EachUntil Fact (Err why) log = EachButLast Fact log

-- which reads gave their blocks, by the stop that there is after them: all, but the last access where it stopped there
abbrev pub ReadsGave : (Carried → Type 0) → Option Stop → List Carried → Type 0
ReadsGave Fact None log = All Fact log
ReadsGave Fact (Some (DeviceFault number)) log = EachButLast Fact log
ReadsGave Fact (Some (Tampered number)) log = EachButLast Fact log
ReadsGave Fact (Some (StashOverflow j)) log = All Fact log

-- each read of the floor's log gave its block
abbrev pub EachGaveItsBlock : {V : Type 0} → (ℕ → Draw) → Parts V → Type 0
EachGaveItsBlock ds f = All (GaveItsOwn ds f) f.recorder.log

-- or each but the last access, where the turns have stopped at it
abbrev pub ReadsGaveTheirBlocks : {V : Type 0} → (ℕ → Draw) → Parts V → Type 0
ReadsGaveTheirBlocks ds f = ReadsGave (GaveItsOwn ds f) f.stop f.recorder.log

-- which accesses failed, by the stop that there is after them: none, or the last one, where the stop is that the device failed
abbrev pub FailedByStop : Option Stop → List Carried → Type 0
FailedByStop None log = NoneFailed log
FailedByStop (Some (DeviceFault number)) log = OnlyLastFailed log
FailedByStop (Some (Tampered number)) log = NoneFailed log
FailedByStop (Some (StashOverflow j)) log = NoneFailed log

-- no access of a log failed but the last one, which was to the slot of this number
pub record OnlyFailedAt (p : Sizes) (number : ℕ) (log : List Carried) : Type 0 where
  pub only : OnlyLastFailed log
  pub slot : slot_number p only.access ≡ number

-- which accesses failed, by how the run ended, or else by the stop: none, or the last one, at the slot where the device failed
abbrev pub FailedBy : Sizes → Option Outcome → Option Stop → List Carried → Type 0
FailedBy p None None log = NoneFailed log
FailedBy p None (Some (DeviceFault number)) log = OnlyFailedAt p number log
FailedBy p None (Some (Tampered number)) log = NoneFailed log
FailedBy p None (Some (StashOverflow j)) log = NoneFailed log
FailedBy p (Some (outcome.Shuffled a)) s log = NoneFailed log
FailedBy p (Some outcome.Overflow) s log = NoneFailed log
FailedBy p (Some (outcome.DeviceFault number)) s log = OnlyFailedAt p number log
FailedBy p (Some (outcome.Tampered number)) s log = NoneFailed log
FailedBy p (Some outcome.BatchFailed) s log = NoneFailed log

-- which reads gave their blocks, by the same: all, but the last access where the turns or the run stopped at it
abbrev pub ReadsGaveBy : (Carried → Type 0) → Option Outcome → Option Stop → List Carried → Type 0
ReadsGaveBy Fact None s log = ReadsGave Fact s log
ReadsGaveBy Fact (Some (outcome.Shuffled a)) s log = All Fact log
ReadsGaveBy Fact (Some outcome.Overflow) s log = All Fact log
ReadsGaveBy Fact (Some (outcome.DeviceFault number)) s log = EachButLast Fact log
ReadsGaveBy Fact (Some (outcome.Tampered number)) s log = EachButLast Fact log
ReadsGaveBy Fact (Some outcome.BatchFailed) s log = All Fact log

-- so it is with the log of a floor
abbrev pub FailedAtItsEnd : {V : Type 0} → Parts V → Type 0
FailedAtItsEnd f = FailedBy f.plan f.outcome f.stop f.recorder.log

abbrev pub GaveUpToItsEnd : {V : Type 0} → (ℕ → Draw) → Parts V → Type 0
GaveUpToItsEnd ds f = ReadsGaveBy (GaveItsOwn ds f) f.outcome f.stop f.recorder.log
