-- The workers before this one have begun.
use Rattle.std.proofs.Common.{◌≡◌, ℕ, ◌<◌, length}
use Rattle.std.specs.Prelude.{slice_index_or}
use Rattle.esa_floor.specs.Working.{Working}
use Rattle.esa_crew.specs.Posts.{AreMembers, KeepsRecords, IsPost}
use Rattle.esa_crew.proofs.begins.begin.Given as goal

abbrev pub invariant-loop-worker : goal.invariant-loop-worker
invariant-loop-worker g l = record {
  posts : (k : ℕ) (w : Working _) → k < l.worker-index → IsPost g.G.Told.draws g.C.Coins.target_list l.floor k (slice_index_or l.workers k w);
  hold : (k : ℕ) (w : Working _) → k < l.worker-index → KeepsRecords g.G.Told.draws l.floor (slice_index_or l.workers k w);
  members : AreMembers g.G.Told.draws g.C.Coins.target_list l.fn.floor l.workers;
  each : length l.workers ≡ length l.initial.workers;
}
