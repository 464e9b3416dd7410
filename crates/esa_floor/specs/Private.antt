-- What a worker makes in private: items of envelopes, and blocks of chunks.
use Rattle.std.specs.Prelude.{◌≡◌, ℕ, ◌+◌, ◌*◌, ◌<◌, List, [], length, map, slice_range, slice_index_or}
use Rattle.std.specs.declared.vec.Vec.{Vec}
use Rattle.esa_envelope.specs.declared.keys.Keys.{Keys}
use Rattle.esa_params.specs.Sizes.{Sizes}
use Rattle.esa_params.specs.Slots.{item_length}
use Rattle.esa_report.specs.declared.item.Item.{Item}
use Rattle.esa_spec.specs.Traces.{chunk_slot}
use Rattle.esa_stash.specs.Dealing.{chunk_at}
use Rattle.esa_vault.specs.Filled.{text_of}
use Rattle.esa_vault.specs.Items.{item_of}
use Rattle.esa_vault.specs.Seals.{sealed_block}

-- the envelope at a place of a text, of so many bytes
abbrev pub envelope_at : ℕ → List ℕ → ℕ → List ℕ
envelope_at size text place = slice_range text (place * size) (place * size + size)

-- its item, under the outer keys
abbrev pub item_opened : Keys → ℕ → List ℕ → ℕ → Item
item_opened outer size text place = item_of outer (envelope_at size text place)

-- what the blocks hold
abbrev pub blocks_in : {Z : Type 0} → List (Vec ℕ Z) → List (List ℕ)
blocks_in blocks = map (λ block. block.items) blocks

-- the block of the chunk of bucket j for the target i in an attempt, by all chunks of the bucket
abbrev pub sealed_chunk : Sizes → Keys → ℕ → ℕ → List Item → ℕ → List ℕ
sealed_chunk p keys j attempt chunks i =
    sealed_block p keys (chunk_slot p j i) attempt (text_of (item_length p.form) (chunk_at p.c chunks i))

-- there is room for a block of a chunk for each target
pub record AreRooms (p : Sizes) (blocks : List (List ℕ)) : Type 0 where
  pub each : length blocks ≡ p.b
  pub long : (i : ℕ) → i < p.b → length (slice_index_or blocks i []) ≡ item_length p.form * p.c + 40

-- the first n blocks are those of the chunks of bucket j
abbrev pub AreSealed : Sizes → Keys → ℕ → ℕ → List Item → List (List ℕ) → ℕ → Type 0
AreSealed p keys j attempt chunks blocks n = (i : ℕ) → i < n → slice_index_or blocks i [] ≡ sealed_chunk p keys j attempt chunks i
