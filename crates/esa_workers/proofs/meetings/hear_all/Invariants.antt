-- The passes of the posts before this one were heard.
use Rattle.std.proofs.Common.{◌≡◌, ℕ, ◌<◌}
use Rattle.std.specs.Prelude.{slice_index_or}
use Rattle.esa_turnstile.specs.Passes.{IsOutside, IsPassOf}
use Rattle.esa_workers.specs.Meetings.{IsAsBefore, Knows}
use Rattle.esa_workers.proofs.meetings.hear_all.Given as goal

abbrev pub invariant-loop-post : goal.invariant-loop-post
invariant-loop-post g l = record {
  same : l.posts ≡ l.initial.posts;
  pass : IsPassOf l.turnstile l.into;
  outside : IsOutside l.into;
  counts : IsAsBefore l.initial.into l.into;
  before : Knows l.into l.initial.into;
  heard : (k : ℕ) (d : _) → k < l.post-index → Knows l.into (slice_index_or l.posts k d).pass;
}
