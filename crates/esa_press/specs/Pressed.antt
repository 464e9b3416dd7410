-- What contracts see of a press, and what its steps make of it and of the memory.
use Rattle.std.specs.Prelude.{◌≡◌, ℕ, ◌+◌, ◌*◌, ◌<◌, ◌≤◌, min, List, All, length, sum, take, drop, Option, Result, Ok, Err}
use Rattle.esa_device.specs.Recording.{Recorded}
use Rattle.esa_envelope.specs.declared.keys.Keys.{Keys}
use Rattle.esa_params.specs.Sizes.{Sizes, size}
use Rattle.esa_params.specs.Slots.{at, item_length}
use Rattle.esa_params.specs.declared.slot.Op.{Op}
use Rattle.esa_params.specs.declared.slot.Region.TheVariants.{Output}
use Rattle.esa_report.specs.declared.item.Item.{Item}
use Rattle.esa_spec.specs.declared.event.Verdict.TheVariants.{QueueOverflow, QueueStarved}
use Rattle.esa_vault.specs.Filled.{text_of}
use Rattle.esa_vault.specs.Placed.{IsSpelled}
use Rattle.esa_vault.specs.Seals.{sealed_block}
use Rattle.esa_vault.specs.Traffic.{IsWritten}
use Rattle.esa_press.specs.Fetched.{IsFetched}
use Rattle.esa_press.specs.declared.halt.Halt.{Halt}
use Rattle.esa_press.specs.declared.halt.Halt.TheVariants.{Verdict, Fault}

-- the plan, the keys of the blocks, the items of the window's queue, how many items each part of an import has, and how
-- many each tail has
pub record Pressed : Type 0 where
  pub plan : Sizes
  pub run : Keys
  pub queue : List Item
  pub counts : List ℕ
  pub tails : List ℕ

-- the window and the buffers are those of the plan, and bytes can spell what waits
pub record AreRooms (p : Sizes) (capacity : ℕ) (queue : List Item) (chunk tail output : ℕ) (items : List Item) (order : List ℕ) (out left : List Item) (counts tails : List ℕ) : Type 0 where
  pub most : capacity ≡ min p.q p.n
  pub spelled : All (IsSpelled (item_length p.form)) queue
  pub chunk_text : chunk ≡ item_length p.form * p.c
  pub tail_text : tail ≡ item_length p.form * p.k
  pub output_text : output ≡ item_length p.form * size p 0
  pub imported : length items ≡ p.b * p.c + p.k
  pub ordered : length order ≡ p.b * p.c + p.k
  pub put : length out ≡ size p 0
  pub spilled : length left ≡ p.k
  pub parts : length counts ≡ p.b + 1
  pub each_tail : length tails ≡ p.b

-- an import of the target i, by the queue before it and by how many items come: it is read whole where it is taken and also
-- where it overflows the queue
abbrev pub ImportAnswer : {V T : Type 0} → (V → ℕ) → Sizes → Keys → ℕ → ℕ → List ℕ → List Item → Recorded V → Recorded V → Result T Halt → Type 0
ImportAnswer faults p keys attempt i counts queue old new (Ok done) =
    (length queue + sum counts ≤ p.q) × IsFetched faults p keys attempt i counts (p.b + 1) old new (Ok done)
ImportAnswer faults p keys attempt i counts queue old new (Err (Verdict v)) =
    (v ≡ QueueOverflow i) × (p.q < length queue + sum counts)
    × IsFetched {T = Unit {0}} faults p keys attempt i counts (p.b + 1) old new (Ok tt)
ImportAnswer faults p keys attempt i counts queue old new (Err (Fault fault)) =
    IsFetched {T = Unit {0}} faults p keys attempt i counts (p.b + 1) old new (Err fault)

-- the block of output bucket j, of the items at the front of a queue
abbrev pub output_block : Sizes → Keys → ℕ → ℕ → List Item → List ℕ
output_block p keys attempt j queue = sealed_block p keys (at Output j) attempt (text_of (item_length p.form) (take (size p j) queue))

-- output bucket j is put from the front of a queue, by the queue before and after: it is starved exactly where the queue has
-- fewer items, and then nothing is done
abbrev pub PutAnswer : {V T : Type 0} → (V → Option (List (List ℕ))) → (V → ℕ) → (V → Option (Op × ℕ)) → Sizes → Keys → ℕ → ℕ → List Item → List Item → Recorded V → Recorded V → Result T Halt → Type 0
PutAnswer told faults last_call p keys attempt j queue rest old new (Ok done) =
    (size p j ≤ length queue) × (rest ≡ drop (size p j) queue)
    × IsWritten told faults last_call p (at Output j) attempt (output_block p keys attempt j queue) old new (Ok done)
PutAnswer told faults last_call p keys attempt j queue rest old new (Err (Verdict v)) =
    (v ≡ QueueStarved j) × (length queue < size p j) × (rest ≡ queue) × (new ≡ old)
PutAnswer told faults last_call p keys attempt j queue rest old new (Err (Fault fault)) =
    (size p j ≤ length queue) × (rest ≡ drop (size p j) queue)
    × IsWritten {T = Unit {0}} told faults last_call p (at Output j) attempt (output_block p keys attempt j queue) old new (Err fault)
