-- What the slots of an attempt hold, where each place has the item of its record.
use Rattle.std.specs.Prelude.{◌≡◌, ℕ, ◌+◌, ◌<◌, ◌++◌, ◌&&◌, Bool, List, map, length, All, count_by, is_some, Result, Ok, Err}
use Rattle.esa_device.specs.Logs.{Carried, IsFaithful, NoneFailed, OnlyLastFailed, Took}
use Rattle.esa_envelope.specs.declared.keys.Keys.{Keys}
use Rattle.esa_floor.specs.Keeping.{AreChunksStored}
use Rattle.esa_floor.specs.Parts.{Parts}
use Rattle.esa_floor.specs.Standing.{turns_made}
use Rattle.esa_floor.specs.Written.{AreItems, EachButLast, EachGaveItsBlock, GaveItsOwn, TookItsBlock, attempt_turns, output_seal, tail_seal}
use Rattle.esa_params.specs.Sizes.{ArePlanned, Sizes}
use Rattle.esa_params.specs.Slots.{at, is_writing, item_length, number_of}
use Rattle.esa_params.specs.declared.slot.Op.TheVariants.{Write as Writes}
use Rattle.esa_params.specs.declared.slot.Region.TheVariants.{Output, Tail}
use Rattle.esa_report.specs.declared.item.Item.{Item}
use Rattle.esa_spec.specs.Draws.{Draw}
use Rattle.esa_spec.specs.Lines.{queued}
use Rattle.esa_spec.specs.Places.{window}
use Rattle.esa_spec.specs.Turns.{order}
use Rattle.esa_stash.specs.Stash.{Held, queue_at}
use Rattle.esa_vault.specs.declared.fault.VaultFault.TheVariants.{Device, Tampered}
use Rattle.esa_press.specs.declared.halt.Halt.{Halt}
use Rattle.esa_press.specs.declared.halt.Halt.TheVariants.{Verdict, Fault}

-- these orders are those of a draw
abbrev pub AreOrders : Sizes → Draw → (ℕ → List ℕ) → Type 0
AreOrders p d orders = (i : ℕ) → i < p.b → orders i ≡ d.order i

-- the records of the places in the window where i targets are imported and j output buckets are put, after the turns h
abbrev pub waiting_items : Sizes → Draw → List ℕ → (ℕ → Item) → ℕ → ℕ → List Item
waiting_items p d h record_of j i = map record_of (window p d (order p.b h) j i)

-- each queue of a stash has the records of the places that wait for its target after the turns h
abbrev pub AreQueued : Sizes → Draw → List ℕ → (ℕ → Item) → Held → Type 0
AreQueued p d h record_of stash =
    (i : ℕ) → i < p.b → queue_at stash i ≡ map record_of (queued p d (order p.b h) (length (order p.b h)) i)

module _ (p : Sizes) (keys : Keys) (d : Draw) (h : List ℕ) (a : ℕ) (record_of : ℕ → Item) where
  -- the tail of the target i in attempt a with the turns h: the block of the records of its places, with dummies behind them
  abbrev pub tail_of : ℕ → List ℕ
  tail_of i = tail_seal p keys a d record_of (order p.b h) i

  -- output bucket j: the block of the records of its places, in order
  abbrev pub output_of : ℕ → List ℕ
  output_of j = output_seal p keys a d record_of h j

  -- the latest write of the slot of each tail took its block
  abbrev pub AreTailsStored : List Carried → Type 0
  AreTailsStored log = (i : ℕ) → i < p.b → Took p (number_of p (at Tail i)) (tail_of i) log

  -- and so it is with those of the first n output buckets
  abbrev pub AreOutputsStored : ℕ → List Carried → Type 0
  AreOutputsStored n log = (j : ℕ) → j < n → Took p (number_of p (at Output j)) (output_of j) log

-- a write is of attempt a, and took the block of its access by the turns h, unless it failed
pub record WroteItsBlock (p : Sizes) (keys : Keys) (d : Draw) (h : List ℕ) (a : ℕ) (record_of : ℕ → Item) (entry : Carried) : Type 0 where
  pub attempt : entry.access.op ≡ Writes → entry.access.attempt ≡ a
  pub block : TookItsBlock p keys (λ b. d) record_of (λ b. h) entry

-- what was distributed in an attempt is stored: the chunks and the tails, of the records of their places
pub record HoldsDistribution (p : Sizes) (keys : Keys) (d : Draw) (h : List ℕ) (a : ℕ) (record_of : ℕ → Item) (log : List Carried) : Type 0 where
  pub items : AreItems (item_length p.form) record_of
  pub chunks : AreChunksStored p keys a d record_of h log
  pub tails : AreTailsStored p keys d h a record_of log

-- an access wrote, and didn't fail
abbrev pub has_stored : Carried → Bool
has_stored entry = is_writing entry.access.op && is_some entry.bytes

-- an access reads, or writes a block of the output
abbrev pub IsOfPress : Carried → Type 0
IsOfPress entry = entry.access.op ≡ Writes → entry.access.region ≡ Output

-- a log goes on with reads and with writes of the output, and n of these didn't fail
pub record GoesOnWriting (n : ℕ) (old new : List Carried) : Type 0 where
  pub more : List Carried
  pub longer : new ≡ old ++ more
  pub each : All IsOfPress more
  pub many : count_by has_stored more ≡ n

-- whatever their number is
abbrev pub GoesOnPressing : List Carried → List Carried → Type 0
GoesOnPressing old new = (n : ℕ) × GoesOnWriting n old new

-- the first n output buckets were written, and no more. Each write took the block of its access, unless it failed
pub record ArePut (p : Sizes) (keys : Keys) (d : Draw) (h : List ℕ) (a : ℕ) (record_of : ℕ → Item) (n : ℕ) (old new : List Carried) : Type 0 where
  pub log : GoesOnWriting n old new
  pub outputs : AreOutputsStored p keys d h a record_of n new
  pub each : All (WroteItsBlock p keys d h a record_of) log.more

-- each block that was given opened: the one fact, where all was done, and the other one, where it was stopped
abbrev pub EachOpens : {T : Type 0} → Result T Halt → Type 0 → Type 0 → Type 0
EachOpens (Ok done) whole stopped = whole
EachOpens (Err (Verdict v)) whole stopped = stopped
EachOpens (Err (Fault (Device number))) whole stopped = stopped
EachOpens (Err (Fault (Tampered number))) whole stopped = ⊥

-- the imports of the targets from i up to k for output bucket j, from the queue before them to the one behind them: where it
-- held the records that wait, it does so with the targets that have come
abbrev pub KeepsWaiting : {T : Type 0} → Sizes → Keys → Draw → List ℕ → ℕ → (ℕ → List ℕ) → (ℕ → Item) → ℕ → ℕ → ℕ → List Carried → List Carried → List Item → List Item → Result T Halt → Type 0
KeepsWaiting p keys d h a orders record_of j i k old new queue rest result =
    ArePlanned p → AreOrders p d orders → HoldsDistribution p keys d h a record_of old → IsFaithful p new → queue ≡ waiting_items p d h record_of j i
    → EachOpens result (rest ≡ waiting_items p d h record_of j k) (Unit {0})

-- all steps for output bucket j: it is put where they were done, and otherwise those before it stay
abbrev pub PutsWaiting : {T : Type 0} → Sizes → Keys → Draw → List ℕ → ℕ → (ℕ → List ℕ) → (ℕ → Item) → ℕ → ℕ → ℕ → List Carried → List Carried → List Carried → List Item → List Item → Result T Halt → Type 0
PutsWaiting p keys d h a orders record_of j i k before old new queue rest result =
    ArePlanned p → AreOrders p d orders → HoldsDistribution p keys d h a record_of before → ArePut p keys d h a record_of j before old → IsFaithful p new
    → queue ≡ waiting_items p d h record_of j i
    → EachOpens result (ArePut p keys d h a record_of (j + 1) before new × (rest ≡ waiting_items p d h record_of (j + 1) k)) (ArePut p keys d h a record_of j before new)

-- which accesses failed, by how it ended: none, or the last one alone, where the device failed
abbrev pub FailedByHalt : {T : Type 0} → Result T Halt → List Carried → Type 0
FailedByHalt (Ok done) log = NoneFailed log
FailedByHalt (Err (Verdict v)) log = NoneFailed log
FailedByHalt (Err (Fault (Device number))) log = OnlyLastFailed log
FailedByHalt (Err (Fault (Tampered number))) log = NoneFailed log

-- which reads gave their blocks, by how it ended: all, but the last access where it failed or gave what doesn't open
abbrev pub EndsReading : {T : Type 0} → (Carried → Type 0) → Result T Halt → List Carried → Type 0
EndsReading Fact (Ok done) log = All Fact log
EndsReading Fact (Err (Verdict v)) log = All Fact log
EndsReading Fact (Err (Fault fault)) log = EachButLast Fact log

-- so it is with those of a floor, where attempt a is at work and each read before it gave its block
abbrev pub GoesOnGiving : {V T : Type 0} → (ℕ → Draw) → ℕ → Parts V → Parts V → Result T Halt → Type 0
GoesOnGiving ds a old new result =
    attempt_turns old a ≡ turns_made old → EachGaveItsBlock ds old → EndsReading (GaveItsOwn ds new) result new.recorder.log
