-- What contracts see of a worker, and what its private work makes of what it holds.
use Rattle.std.specs.Prelude.{◌≡◌, ℕ, ◌+◌, ◌-◌, ◌*◌, ◌%◌, ◌<◌, List, [], All, length, map, take, slice_index_or, Option, Some, None}
use Rattle.esa_envelope.specs.declared.keys.Keys.{Keys}
use Rattle.esa_params.specs.Form.{envelope_length}
use Rattle.esa_params.specs.Sizes.{Sizes, below, size}
use Rattle.esa_params.specs.Slots.{item_length}
use Rattle.esa_report.specs.declared.item.Item.{Item}
use Rattle.esa_stash.specs.Stash.{Handed}
use Rattle.esa_vault.specs.Placed.{IsSpelled}
use Rattle.esa_floor.specs.Private.{AreRooms, AreSealed, item_opened}
use Rattle.esa_floor.specs.declared.worker.Stage.{Stage}
use Rattle.esa_floor.specs.declared.worker.Stage.TheVariants.{Empty, Envelopes, Items, Chunks, Blocks}

-- the buffers of a worker
pub record Buffered : Type 0 where
  pub plan : Sizes
  -- the envelopes of a bucket, their items, and their targets
  pub text : List ℕ
  pub items : List Item
  pub targets : List ℕ
  -- the block of a bucket, as it was read
  pub sealed : List ℕ
  -- the chunks of a bucket, and their blocks
  pub chunks : List Item
  pub blocks : List (List ℕ)

-- what is handed to the exchange of a bucket
abbrev pub handed_by : Buffered → ℕ → Handed
handed_by b j = (take (size b.plan j) b.targets, take (size b.plan j) b.items)

-- the block of its chunk for a target
abbrev pub block_for : Buffered → ℕ → List ℕ
block_for b i = slice_index_or b.blocks i []

-- the items of a bucket are those of its envelopes
abbrev pub AreOpened : Keys → Buffered → ℕ → Type 0
AreOpened outer b j = take (size b.plan j) b.items ≡ map (item_opened outer (envelope_length b.plan.form) b.text) (below (size b.plan j))

-- the targets of a bucket are those that were drawn
abbrev pub AreDrawn : List ℕ → Buffered → ℕ → Type 0
AreDrawn drawn b j = take (size b.plan j) b.targets ≡ drawn

-- the buffers have the lengths that the plan asks for at most: those of the first bucket, and of the chunks
pub record AreBuffers (p : Sizes) (text : List ℕ) (items : List Item) (targets draw : List ℕ) (chunks : List Item) (chunk sealed : List ℕ) (blocks : List (List ℕ)) : Type 0 where
  pub envelopes : length text ≡ size p 0 * envelope_length p.form
  pub item_each : length items ≡ size p 0
  pub target_each : length targets ≡ size p 0
  pub to_draw : length draw ≡ size p 0 + p.b - 1
  pub chunk_each : length chunks ≡ p.b * p.c
  pub chunk_text : length chunk ≡ item_length p.form * p.c
  pub input : length sealed ≡ size p 0 * envelope_length p.form + 40
  pub rooms : AreRooms p blocks

-- the parts of a worker
pub record Working (C : Type 0) : Type 0 where
  pub coins : C
  pub number : ℕ
  pub outer : Keys
  pub run : Keys
  -- the attempt that it began last, the phase of its next turn, and the bucket of its round
  pub attempt : Option ℕ
  pub phase : ℕ
  pub bucket : ℕ
  -- what it holds of the bucket
  pub stage : Stage
  pub buffers : Buffered

-- nothing is left to prepare
abbrev pub IsReady : Stage → Type 0
IsReady Empty = Unit {0}
IsReady Envelopes = ⊥
IsReady Items = Unit {0}
IsReady Chunks = ⊥
IsReady Blocks = Unit {0}

-- the attempt was begun, and is one of the plan
abbrev pub IsBegun : Sizes → Option ℕ → Type 0
IsBegun p None = ⊥
IsBegun p (Some a) = a < p.attempts

-- a worker that has passed a turn
abbrev pub passed : {C : Type 0} → Working C → Working C
passed w = record w { phase = (w.phase + 1) % (w.buffers.plan.b + 3) }

-- the attempt that was begun, or 0
abbrev pub attempt_in : Option ℕ → ℕ
attempt_in None = 0
attempt_in (Some a) = a

-- what a worker holds at a stage, by its keys and the targets that its coins draw: the bucket is one of the plan, its
-- items were opened and its targets drawn, items that are to be sealed can be spelled, and blocks were sealed from them
abbrev pub Holds : Keys → Keys → (ℕ → ℕ → List ℕ) → Option ℕ → ℕ → Buffered → Stage → Type 0
Holds outer run target_list attempt bucket b Empty = Unit {0}
Holds outer run target_list attempt bucket b Envelopes = IsBegun b.plan attempt × (bucket < b.plan.b)
Holds outer run target_list attempt bucket b Items =
    IsBegun b.plan attempt × (bucket < b.plan.b) × AreOpened outer b bucket × AreDrawn (target_list (attempt_in attempt) bucket) b bucket
Holds outer run target_list attempt bucket b Chunks =
    IsBegun b.plan attempt × (bucket < b.plan.b) × All (IsSpelled (item_length b.plan.form)) b.chunks
Holds outer run target_list attempt bucket b Blocks =
    IsBegun b.plan attempt × (bucket < b.plan.b) × AreSealed b.plan run bucket (attempt_in attempt) b.chunks b.blocks b.plan.b

-- a worker of this number that has begun an attempt
abbrev pub begun_with : {C : Type 0} → Working C → ℕ → Working C
begun_with w attempt = record w { attempt = Some attempt; phase = 0; bucket = 0; stage = Empty }

-- what its private work makes of what a worker holds, by the targets that its coins draw for each attempt and bucket
abbrev pub Prepares : {C : Type 0} → (ℕ → ℕ → List ℕ) → Working C → Working C → Stage → Type 0
Prepares target_list old new Envelopes =
    (new ≡ record old { stage = Items; buffers = record old.buffers { items = new.buffers.items; targets = new.buffers.targets } })
    × (take (size old.buffers.plan old.bucket) new.buffers.items
    ≡ map (item_opened old.outer (envelope_length old.buffers.plan.form) old.buffers.text) (below (size old.buffers.plan old.bucket)))
    × (take (size old.buffers.plan old.bucket) new.buffers.targets ≡ target_list (attempt_in old.attempt) old.bucket)
Prepares target_list old new Chunks =
    (new ≡ record old { stage = Blocks; buffers = record old.buffers { blocks = new.buffers.blocks } })
    × AreSealed old.buffers.plan old.run old.bucket (attempt_in old.attempt) old.buffers.chunks new.buffers.blocks old.buffers.plan.b
Prepares target_list old new Empty = new ≡ old
Prepares target_list old new Items = new ≡ old
Prepares target_list old new Blocks = new ≡ old
