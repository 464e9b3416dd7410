-- The chunks before this one were read.
use Rattle.std.proofs.Common.{◌≡◌, ◌*◌, ◌<◌, ℕ, List, Ok, All, take, sum, flat_map}
use Rattle.esa_compress.specs.Held.{held_count}
use Rattle.esa_device.specs.Logs.{IsFaithful}
use Rattle.esa_params.specs.Sizes.{below}
use Rattle.esa_params.specs.Slots.{item_length}
use Rattle.esa_report.specs.declared.item.Item.{Item}
use Rattle.esa_spec.specs.Traces.{chunk_slot}
use Rattle.esa_stash.specs.Stash.{padded}
use Rattle.esa_vault.specs.Placed.{IsSpelled}
use Rattle.esa_press.specs.Fetched.{IsFetched, IsStored}
use Rattle.esa_press.proofs.import.fetch_chunks.Given as goal

abbrev pub invariant-loop-bucket : goal.invariant-loop-bucket
invariant-loop-bucket g l = record {
  fetched : IsFetched {T = Unit {0}} g.V.Device.faults l.plan l.keys l.attempt l.target l.counts l.bucket l.fn.recorder l.recorder (Ok tt);
  counted : held_count (take (l.bucket * l.plan.c) l.items) ≡ sum (take l.bucket l.counts);
  spelled : All (IsSpelled (item_length l.plan.form)) (take (l.bucket * l.plan.c) l.items);
  gives : (records : ℕ → List Item) → IsFaithful l.plan l.recorder.log
      → ((j : ℕ) → j < l.bucket → IsStored l.plan l.keys (chunk_slot l.plan j l.target) l.attempt l.plan.c l.fn.recorder.log (records j))
      → take (l.bucket * l.plan.c) l.items ≡ flat_map (λ j. padded l.plan.c (records j)) (below l.bucket);
}
