-- The exchanges of an attempt: the stash, and the counts of the chunks that left it.
use Rattle.std.specs.Prelude.{◌≡◌, ℕ, ◌*◌, List, length}
use Rattle.esa_params.specs.Sizes.{Sizes}
use Rattle.esa_stash.specs.Stash.{Held}

pub record Exchanges : Type 0 where
  pub plan : Sizes
  pub stash : Held
  pub counts : List ℕ

-- a queue for each target, with the sizes of the plan, and a count for each chunk
pub record AreOf (plan : Sizes) (stash : Held) (counts : List ℕ) : Type 0 where
  pub queue_each : length stash.queues ≡ plan.b
  pub chunk : stash.c ≡ plan.c
  pub room : stash.s ≡ plan.s
  pub count_each : length counts ≡ plan.b * plan.b
