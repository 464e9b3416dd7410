-- A batch that is loaded: what it gave, and what was written of it.
use Rattle.std.specs.Prelude.{◌≡◌, ℕ, ◌+◌, ◌*◌, ◌<◌, List, [], ◌∷◌, ◌++◌, drop, flat_map, length, map, slice_range, take, Option, Some, None, Result, Ok, Err}
use Rattle.std.specs.List.{concat}
use Rattle.esa_device.specs.Logs.{Carried}
use Rattle.esa_device.specs.Recording.{Recorded}
use Rattle.esa_envelope.specs.declared.keys.Keys.{Keys}
use Rattle.esa_outside.specs.Cause.{Rose}
use Rattle.esa_outside.specs.Heard.{Event}
use Rattle.esa_params.specs.Form.{envelope_length}
use Rattle.esa_params.specs.Sizes.{Sizes, below, first, size}
use Rattle.esa_params.specs.Slots.{at, number_of}
use Rattle.esa_params.specs.declared.slot.Region.TheVariants.{Input}
use Rattle.esa_spec.specs.Traces.{written_input}
use Rattle.esa_vault.specs.Seals.{sealed_block}
use Rattle.esa_vault.specs.Traffic.{OneMore}
use Rattle.esa_load.specs.declared.fault.LoadFault.{LoadFault}
use Rattle.esa_load.specs.declared.fault.LoadFault.TheVariants.{Batch, Device}

-- the plan and the keys of the blocks
pub record Loading : Type 0 where
  pub plan : Sizes
  pub run : Keys

-- there is room for the records of each bucket and for its block: the first bucket is the largest
pub record FitsEachBucket (p : Sizes) (text sealed : List ℕ) : Type 0 where
  pub records : length text ≡ envelope_length p.form * size p 0
  pub block : length sealed ≡ envelope_length p.form * size p 0 + 40

-- the count of faults of a source of records, and what was heard of it
pub record Source : Type 0 where
  pub faults : ℕ
  pub heard : List Event

-- the text of bucket j in what a batch gave, which is the records of its buckets, one after another
abbrev pub bucket_text : Sizes → List ℕ → ℕ → List ℕ
bucket_text p given j = slice_range given (envelope_length p.form * first p j) (envelope_length p.form * first p (j + 1))

-- the write of the block of bucket j, which took the seal of this text
abbrev pub written_block : Sizes → Keys → ℕ → List ℕ → Carried
written_block p run j text = record { access = written_input p j; bytes = Some (sealed_block p run (at Input j) 0 text) }

-- the same, where the device failed
abbrev pub failed_block : Sizes → ℕ → Carried
failed_block p j = record { access = written_input p j; bytes = None }

-- the writes of the blocks of the first k buckets
abbrev pub written_blocks : Sizes → Keys → List ℕ → ℕ → List Carried
written_blocks p run given k = map (λ j. written_block p run j (bucket_text p given j)) (below k)

-- where the records are told, the text has those of the places of bucket j
abbrev pub IsAsTold : Sizes → Option (List (List ℕ)) → ℕ → List ℕ → Type 0
IsAsTold p told j text = (records : List (List ℕ)) → told ≡ Some records → text ≡ concat (take (size p j) (drop (first p j) records))

-- the batch gave this text for bucket j, and a write of its block was asked for, of which the log has this entry
pub record IsAsked {V : Type 0} (p : Sizes) (told : Option (List (List ℕ))) (part : List ℕ → List Event) (j : ℕ) (text : List ℕ) (entry : Carried) (old new : Recorded V) (before after : Source) : Type 0 where
  pub given : IsAsTold p told j text
  pub heard : after.heard ≡ before.heard ++ part text
  pub calm : after.faults ≡ before.faults
  pub written : OneMore old new entry
  pub last : new.last ≡ old.last

-- how the write of the block of bucket j ends
abbrev pub WriteEnd : {V T : Type 0} → (V → ℕ) → Sizes → Keys → ℕ → List ℕ → Recorded V → Recorded V → Result T LoadFault → Type 0
WriteEnd faults p run j text old new (Ok done) = OneMore old new (written_block p run j text) × (faults new.device ≡ faults old.device)
WriteEnd faults p run j text old new (Err (Batch bucket)) = ⊥
WriteEnd faults p run j text old new (Err (Device number)) =
    (number ≡ number_of p (at Input j)) × OneMore old new (failed_block p j) × Rose (faults old.device) (faults new.device)

-- how the load of bucket j ends, where the batch gave this text: it is written, unless the batch or the device failed
abbrev pub BucketEnd : {V T : Type 0} → (V → ℕ) → Sizes → Keys → Option (List (List ℕ)) → (List ℕ → List Event) → ℕ → List ℕ → Recorded V → Recorded V → Source → Source → Result T LoadFault → Type 0
BucketEnd faults p run told part j text old new before after (Ok done) =
    IsAsked p told part j text (written_block p run j text) old new before after × (faults new.device ≡ faults old.device)
BucketEnd faults p run told part j text old new before after (Err (Batch bucket)) =
    (bucket ≡ j) × (new ≡ old) × Rose before.faults after.faults × (after.heard ≡ before.heard)
BucketEnd faults p run told part j text old new before after (Err (Device number)) =
    (number ≡ number_of p (at Input j)) × IsAsked p told part j text (failed_block p j) old new before after
    × Rose (faults old.device) (faults new.device)

-- the batch gave the records of its first k buckets, one after another. The writes of their blocks were asked for, and
-- nothing else, and the log has these entries of them
pub record AreGiven {V : Type 0} (p : Sizes) (told : Option (List (List ℕ))) (part : ℕ → List ℕ → List Event) (k : ℕ) (given : List ℕ) (entries : List Carried) (old new : Recorded V) (before after : Source) : Type 0 where
  pub bytes : length given ≡ envelope_length p.form * first p k
  pub as_told : (records : List (List ℕ)) → told ≡ Some records → given ≡ concat (take (first p k) records)
  pub heard : after.heard ≡ before.heard ++ flat_map (λ j. part (first p j) (bucket_text p given j)) (below k)
  pub trace : new.trace ≡ old.trace ++ map (written_input p) (below k)
  pub log : new.log ≡ old.log ++ entries
  pub room : old.room ≡ new.room + k
  pub plan : new.plan ≡ old.plan
  pub last : new.last ≡ old.last

-- how a load ends: all is written; or the records of a bucket could not be read, or its block could not be written, and
-- the buckets before it are written
abbrev pub LoadEnd : {V T : Type 0} → (V → ℕ) → Sizes → Keys → Option (List (List ℕ)) → (ℕ → List ℕ → List Event) → List ℕ → Recorded V → Recorded V → Source → Source → Result T LoadFault → Type 0
LoadEnd faults p run told part given old new before after (Ok done) =
    AreGiven p told part p.b given (written_blocks p run given p.b) old new before after
    × (faults new.device ≡ faults old.device) × (after.faults ≡ before.faults)
LoadEnd faults p run told part given old new before after (Err (Batch j)) =
    (j < p.b) × AreGiven p told part j given (written_blocks p run given j) old new before after
    × (faults new.device ≡ faults old.device) × Rose before.faults after.faults
LoadEnd faults p run told part given old new before after (Err (Device number)) =
    (j : ℕ) × (j < p.b) × (number ≡ number_of p (at Input j))
    × AreGiven p told part (j + 1) given (written_blocks p run given j ++ failed_block p j ∷ []) old new before after
    × Rose (faults old.device) (faults new.device) × (after.faults ≡ before.faults)
