-- The workers with lower numbers are made.
use Rattle.std.proofs.Common.{◌≡◌, ℕ, ◌<◌, length}
use Rattle.std.specs.Prelude.{slice_index_or}
use Rattle.esa_floor.specs.Working.{Working}
use Rattle.esa_crew.specs.Posts.{IsNewWorker}
use Rattle.esa_crew.proofs.members.workers.Given as goal

abbrev pub invariant-loop-number : goal.invariant-loop-number
invariant-loop-number g l = record {
  each : length l.workers.items ≡ l.number;
  made : (k : ℕ) (w : Working _) → k < l.number → IsNewWorker l.coins l.plan l.outer l.run k (slice_index_or l.workers.items k w);
}
