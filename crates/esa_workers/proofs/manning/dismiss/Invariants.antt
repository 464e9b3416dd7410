-- The last posts have given their passes.
use Rattle.std.proofs.Common.{◌≡◌, ◌+◌, ◌++◌, ◌≤◌, length, map}
use Rattle.std.specs.Prelude.{reverse, vec_capacity}
use Rattle.esa_workers.specs.declared.posts.Manned.{Manned}
use Rattle.esa_workers.proofs.manning.dismiss.Given as goal

abbrev pub invariant-loop-post : goal.invariant-loop-post
invariant-loop-post g l = record {
  room : length l.passes.items + length l.posts.items ≤ vec_capacity l.passes;
  taken : l.passes.items ++ reverse (map (λ (post : Manned _ _). post.pass) l.posts.items) ≡ l.initial.passes.items ++ reverse (map (λ (post : Manned _ _). post.pass) l.fn.posts.items);
}

abbrev pub decreases-loop-post : goal.decreases-loop-post
decreases-loop-post g l = length l.posts.items
