-- The last workers have their passes, the last one first.
use Rattle.std.proofs.Common.{◌≡◌, ℕ, ◌+◌, ◌-◌, ◌<◌, length}
use Rattle.std.specs.Prelude.{slice_index_or, vec_capacity}
use Rattle.esa_workers.proofs.manning.man.Given as goal

abbrev pub invariant-loop-worker : goal.invariant-loop-worker
invariant-loop-worker g l = record {
  all : length l.workers.items + length l.posts.items ≡ length l.fn.workers.items;
  each : length l.passes.items ≡ length l.workers.items;
  room : vec_capacity l.posts ≡ vec_capacity l.initial.posts;
  passes_room : vec_capacity l.passes ≡ vec_capacity l.initial.passes;
  workers : (k : ℕ) (d : _) → k < length l.workers.items → slice_index_or l.workers.items k d ≡ slice_index_or l.fn.workers.items k d;
  passes : (k : ℕ) (d : _) → k < length l.passes.items → slice_index_or l.passes.items k d ≡ slice_index_or l.initial.passes.items k d;
  manned : (k : ℕ) (d : _) → k < length l.posts.items → slice_index_or l.posts.items k d
      ≡ record {
        worker = slice_index_or l.fn.workers.items (length l.fn.workers.items - 1 - k) d.worker;
        pass = slice_index_or l.initial.passes.items (length l.fn.workers.items - 1 - k) d.pass;
      };
}

abbrev pub decreases-loop-worker : goal.decreases-loop-worker
decreases-loop-worker g l = length l.workers.items
