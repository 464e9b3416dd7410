-- The posts before this one were told.
use Rattle.std.proofs.Common.{◌≡◌, ℕ, ◌<◌, ◌≤◌, length}
use Rattle.std.specs.Prelude.{slice_index_or}
use Rattle.esa_workers.specs.Meetings.{WasTold}
use Rattle.esa_workers.proofs.meetings.tell_all.Given as goal

abbrev pub invariant-loop-post : goal.invariant-loop-post
invariant-loop-post g l = record {
  same : l.from ≡ l.initial.from;
  each : length l.posts ≡ length l.initial.posts;
  told : (k : ℕ) (d : _) → k < l.post-index → WasTold l.turnstile l.initial.from (slice_index_or l.initial.posts k d) (slice_index_or l.posts k d);
  rest : (k : ℕ) (d : _) → l.post-index ≤ k → slice_index_or l.posts k d ≡ slice_index_or l.initial.posts k d;
}
