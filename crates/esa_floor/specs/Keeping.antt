-- What a floor and its workers keep of the records of the input.
use Rattle.std.specs.Prelude.{◌≡◌, ◌≢◌, ℕ, ◌<◌, ◌≤◌, ◌==◌, List, [], ◌∷◌, ◌++◌, length, map, take, count_by, flat_map, Some, None}
use Rattle.esa_device.specs.Logs.{Carried, IsFaithful, Took}
use Rattle.esa_device.specs.Recording.{Recorded}
use Rattle.esa_envelope.specs.declared.keys.Keys.{Keys}
use Rattle.esa_params.specs.Form.{envelope_length}
use Rattle.esa_params.specs.Sizes.{Sizes, below, places_of, size}
use Rattle.esa_params.specs.Slots.{at, item_length, number_of, plain_length}
use Rattle.esa_params.specs.declared.slot.Region.TheVariants.{Input}
use Rattle.esa_report.specs.declared.item.Item.{Item}
use Rattle.esa_spec.specs.Draws.{Draw}
use Rattle.esa_spec.specs.Lines.{chunk, queued}
use Rattle.esa_spec.specs.Places.{exchange_of}
use Rattle.esa_spec.specs.Traces.{chunk_slot}
use Rattle.esa_spec.specs.Turns.{events, is_write_at, order}
use Rattle.esa_spec.specs.declared.event.Event.{Event}
use Rattle.esa_spec.specs.declared.event.Event.TheVariants.{Claim, Read, Exchange, Write, Done, Idle}
use Rattle.esa_stash.specs.Stash.{chunks, exchanged, padded, queue_at}
use Rattle.esa_vault.specs.Filled.{text_of}
use Rattle.esa_vault.specs.Seals.{sealed_block, text_in}
use Rattle.esa_floor.specs.Exchanges.{AreOf}
use Rattle.esa_floor.specs.Parts.{Parts}
use Rattle.esa_floor.specs.Private.{item_opened}
use Rattle.esa_floor.specs.Standing.{StopsAt, attempt_begun, turns_made}
use Rattle.esa_floor.specs.Working.{AreDrawn, AreOpened, Working, attempt_in, handed_by}

-- the envelopes of a text open to the records of the places of bucket j
abbrev pub AreRecords : Sizes → Keys → (ℕ → Item) → ℕ → List ℕ → Type 0
AreRecords p outer record_of j text =
    map (item_opened outer (envelope_length p.form) text) (below (size p j)) ≡ map record_of (places_of p j)

-- a batch with these records was loaded: the log is faithful, and the latest write of each block of the input took the
-- seal of a text of them
pub record IsInput (p : Sizes) (outer run : Keys) (record_of : ℕ → Item) (log : List Carried) : Type 0 where
  pub faithful : IsFaithful p log
  pub sealed : (j : ℕ) → j < p.b
      → (text : List ℕ) × Took p (number_of p (at Input j)) (sealed_block p run (at Input j) 0 text) log × AreRecords p outer record_of j text

abbrev pub HasInput : {V : Type 0} → Parts V → (ℕ → Item) → Type 0
HasInput f record_of = IsInput f.plan f.outer f.run record_of f.recorder.log

-- the bytes that a read of the block of bucket j gave open, for its slot and the attempt, to the text in a worker's buffer
abbrev pub HasText : Sizes → Keys → ℕ → ℕ → List ℕ → List ℕ → Type 0
HasText p run a j given text = text_in p run (at Input j) a given ≡ Some (take (plain_length p Input j) text)

-- a read of the block of bucket j opened to a text: that of the bytes that it gave, and that whose seal the latest write took,
-- where the log is faithful
pub record OpensTo {V : Type 0} (p : Sizes) (run : Keys) (a j : ℕ) (text : List ℕ) (old new : Recorded V) : Type 0 where
  pub given : HasText p run a j new.last text
  pub latest : (sealed : List ℕ) → IsFaithful p new.log → Took p (number_of p (at Input j)) (sealed_block p run (at Input j) a sealed) old.log
      → take (plain_length p Input j) text ≡ sealed

-- from its read to its exchange, a worker holds envelopes of the records of its bucket, while no turn of the attempt
-- has failed
abbrev pub HoldsRecords : {V C : Type 0} → Parts V → Working C → Type 0
HoldsRecords f w =
    (record_of : ℕ → Item) → HasInput f record_of → f.attempt ≢ None → f.stop ≡ None → w.phase ≡ 2 → w.bucket < f.plan.b
    → AreRecords f.plan f.outer record_of w.bucket w.buffers.text

-- the exchange of bucket j: its worker handed over the items of its envelopes, by the targets that its coins drew
pub record IsDealt {V C : Type 0} (target_list : ℕ → ℕ → List ℕ) (j : ℕ) (old new : Parts V) (w : Working C) : Type 0 where
  pub bucket : w.bucket ≡ j
  pub inside : j < old.plan.b
  pub of : AreOf old.plan old.stash old.counts
  pub opened : AreOpened w.outer w.buffers j
  pub drawn : AreDrawn (target_list (attempt_in w.attempt) j) w.buffers j
  pub stash : new.stash ≡ exchanged old.stash (handed_by w.buffers j)

-- what a turn with this event that did not fail makes of the stash
abbrev pub Deals : {V C : Type 0} → (ℕ → ℕ → List ℕ) → Event → Parts V → Parts V → Working C → Type 0
Deals target_list (Claim j) old new w = new.stash ≡ old.stash
Deals target_list (Read j) old new w = new.stash ≡ old.stash
Deals target_list (Exchange j) old new w = (w.phase ≡ 2) × IsDealt target_list j old new w
Deals target_list (Write j i) old new w = new.stash ≡ old.stash
Deals target_list Done old new w = new.stash ≡ old.stash
Deals target_list Idle old new w = new.stash ≡ old.stash

-- while no turn of the attempt has failed, each queue has the records of the places that wait for its target
abbrev pub QueuesHold : {V : Type 0} → (ℕ → Draw) → Parts V → Type 0
QueuesHold ds f =
    (record_of : ℕ → Item) → HasInput f record_of → f.attempt ≢ None → f.stop ≡ None → (i : ℕ) → i < f.plan.b
    → queue_at f.stash i
    ≡ map record_of (queued f.plan (ds (attempt_begun f)) (order f.plan.b (turns_made f)) (length (order f.plan.b (turns_made f))) i)

-- the chunks of bucket j in an attempt with this order of exchanges: for each target the records of their places, with
-- dummies behind them
pub record AreChunks (p : Sizes) (d : Draw) (record_of : ℕ → Item) (o : List ℕ) (j : ℕ) (chunks : List Item) : Type 0 where
  pub exchanged : 1 ≤ count_by (λ k. k == j) o
  pub items : chunks ≡ flat_map (λ i. padded p.c (map record_of (chunk p d o (exchange_of o j) i))) (below p.b)

-- from its exchange to the end of its round, a worker holds the chunks of its bucket, while no turn of the attempt has
-- failed
abbrev pub HoldsChunks : {V C : Type 0} → (ℕ → Draw) → Parts V → Working C → Type 0
HoldsChunks ds f w =
    (record_of : ℕ → Item) → HasInput f record_of → f.attempt ≢ None → f.stop ≡ None → 3 ≤ w.phase → w.bucket < f.plan.b
    → AreChunks f.plan (ds (attempt_begun f)) record_of (order f.plan.b (turns_made f)) w.bucket w.buffers.chunks

-- a worker has read the block of bucket j: it has the text to which the bytes that were given open
pub record HasReadBlock {V C : Type 0} (j : ℕ) (given : List ℕ) (f : Parts V) (new : Working C) : Type 0 where
  pub phase : new.phase ≡ 2
  pub bucket : new.bucket ≡ j
  pub text : HasText f.plan f.run (attempt_begun f) j given new.buffers.text

-- it has exchanged bucket j: it has the chunks that left the stash for the items that it handed over
pub record HasExchangedBucket {V C : Type 0} (j : ℕ) (f : Parts V) (old new : Working C) : Type 0 where
  pub bucket : new.bucket ≡ j
  pub chunks_are : new.buffers.chunks ≡ chunks f.stash (handed_by old.buffers j)

-- it has written a chunk of bucket j: it has its chunks as before
pub record HasWrittenChunk {C : Type 0} (j : ℕ) (old new : Working C) : Type 0 where
  pub phase : 3 ≤ old.phase
  pub before : old.bucket ≡ j
  pub bucket : new.bucket ≡ j
  pub same : new.buffers.chunks ≡ old.buffers.chunks

-- what a turn with this event that did not fail leaves its worker, by the bytes that its read gave
abbrev pub Leaves : {V C : Type 0} → Event → List ℕ → Parts V → Working C → Working C → Type 0
Leaves (Claim j) given f old new = new.phase ≡ 1
Leaves (Read j) given f old new = HasReadBlock j given f new
Leaves (Exchange j) given f old new = HasExchangedBucket j f old new
Leaves (Write j i) given f old new = HasWrittenChunk j old new
Leaves Done given f old new = new.phase ≡ 1
Leaves Idle given f old new = f.plan.b ≤ new.bucket

-- the block of the chunk of bucket j for the target i in attempt a, with this order of exchanges: the seal of the records
-- of its places, with dummies behind them
abbrev pub chunk_block : Sizes → Keys → ℕ → Draw → (ℕ → Item) → List ℕ → ℕ → ℕ → List ℕ
chunk_block p run a d record_of o j i =
    sealed_block p run (chunk_slot p j i) a (text_of (item_length p.form) (padded p.c (map record_of (chunk p d o (exchange_of o j) i))))

-- the bucket j was exchanged, and the latest write of the slot of its chunk for the target i took its block
pub record IsChunkStored (p : Sizes) (run : Keys) (a : ℕ) (d : Draw) (record_of : ℕ → Item) (o : List ℕ) (log : List Carried) (j i : ℕ) : Type 0 where
  pub exchanged : 1 ≤ count_by (λ k. k == j) o
  pub took : Took p (number_of p (chunk_slot p j i)) (chunk_block p run a d record_of o j i) log

-- so it is with each chunk that the turns h of attempt a have written
abbrev pub AreChunksStored : Sizes → Keys → ℕ → Draw → (ℕ → Item) → List ℕ → List Carried → Type 0
AreChunksStored p run a d record_of h log =
    (j i : ℕ) → j < p.b → i < p.b → 1 ≤ count_by (is_write_at j i) (events p.b h) → IsChunkStored p run a d record_of (order p.b h) log j i

-- while no turn of the attempt has failed, each chunk that was written is stored in its slot
abbrev pub SlotsHold : {V : Type 0} → (ℕ → Draw) → Parts V → Type 0
SlotsHold ds f =
    (record_of : ℕ → Item) → HasInput f record_of → f.attempt ≢ None → f.stop ≡ None
    → AreChunksStored f.plan f.run (attempt_begun f) (ds (attempt_begun f)) record_of (turns_made f) f.recorder.log

-- each queue has the records of the places that wait for its target after the turns h of the attempt
abbrev pub QueuesHoldAfter : {V : Type 0} → (ℕ → Draw) → List ℕ → Parts V → Type 0
QueuesHoldAfter ds h f =
    (record_of : ℕ → Item) → HasInput f record_of → (i : ℕ) → i < f.plan.b
    → queue_at f.stash i ≡ map record_of (queued f.plan (ds (attempt_begun f)) (order f.plan.b h) (length (order f.plan.b h)) i)

-- each chunk that the turns h of the attempt have written is stored in its slot
abbrev pub SlotsHoldAfter : {V : Type 0} → (ℕ → Draw) → List ℕ → Parts V → Type 0
SlotsHoldAfter ds h f =
    (record_of : ℕ → Item) → HasInput f record_of
    → AreChunksStored f.plan f.run (attempt_begun f) (ds (attempt_begun f)) record_of h f.recorder.log

-- the turns h of the attempt did not fail. One more was made, at which they stopped, and none behind it
pub record StopsAfter {V : Type 0} (faults : V → ℕ) (ds : ℕ → Draw) (h : List ℕ) (f : Parts V) : Type 0 where
  pub failed : ℕ
  pub turns : turns_made f ≡ h ++ failed ∷ []
  pub stops : StopsAt faults (ds (attempt_begun f)) (attempt_begun f) f (length h) f.stop

-- the turns h of the attempt did not fail. They are all, or the turns have stopped at the one behind them
pub record StopsBehind {V : Type 0} (faults : V → ℕ) (ds : ℕ → Draw) (h : List ℕ) (f : Parts V) : Type 0 where
  pub behind : List ℕ
  pub turns : turns_made f ≡ h ++ behind
  pub stops : StopsAt faults (ds (attempt_begun f)) (attempt_begun f) f (length h) f.stop

-- what the queues and the slots hold by the turns that are done, however the turns of the attempt have stopped. A write that
-- failed is none of these turns, and so is left out with its slot
pub record HoldsDone {V : Type 0} (faults : V → ℕ) (ds : ℕ → Draw) (f : Parts V) : Type 0 where
  pub done : List ℕ
  pub stops : StopsBehind faults ds done f
  pub queues : QueuesHoldAfter ds done f
  pub slots : SlotsHoldAfter ds done f

-- so it is while an attempt is at work
abbrev pub KeepsDone : {V : Type 0} → (V → ℕ) → (ℕ → Draw) → Parts V → Type 0
KeepsDone faults ds f = f.attempt ≢ None → HoldsDone faults ds f

-- a worker holds what it held after the turns h of the attempt: envelopes of the records of its bucket, from its read to
-- its exchange, and from then to the end of its round the chunks of its bucket
pub record HoldsAfter {V C : Type 0} (ds : ℕ → Draw) (h : List ℕ) (f : Parts V) (w : Working C) : Type 0 where
  pub records : (record_of : ℕ → Item) → HasInput f record_of → w.phase ≡ 2 → w.bucket < f.plan.b
      → AreRecords f.plan f.outer record_of w.bucket w.buffers.text
  pub chunks : (record_of : ℕ → Item) → HasInput f record_of → 3 ≤ w.phase → w.bucket < f.plan.b
      → AreChunks f.plan (ds (attempt_begun f)) record_of (order f.plan.b h) w.bucket w.buffers.chunks
