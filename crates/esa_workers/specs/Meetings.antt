-- What a pass has learned of another that it met.
use Rattle.std.specs.Prelude.{◌≡◌, ◌≤◌, max}
use mathlib.Core.List.{IsPrefix}
use Rattle.esa_turnstile.specs.Passes.{IsOutside, IsPassOf, added_of, left_of, mark_of, number_of, seen_of, trail_of}
use Rattle.esa_turnstile.specs.declared.pass.Pass.{Pass}
use Rattle.esa_turnstile.specs.declared.turnstile.Turnstile.{Turnstile}
use Rattle.esa_workers.specs.declared.posts.Manned.{Manned}

-- the pass has met another, and has seen what either had seen
pub record HasMet {T O : Type 0} (t : Turnstile T O) (from old new : Pass T) : Type 0 where
  pub pass : IsPassOf t new
  pub outside : IsOutside new
  pub number : number_of new ≡ number_of old
  pub added : added_of new ≡ added_of old
  pub left : left_of new ≡ left_of old
  pub seen_from : IsPrefix (seen_of from) (seen_of new)
  pub seen : IsPrefix (seen_of old) (seen_of new)
  pub mark : mark_of new ≡ max (mark_of old) (mark_of from)
  pub trail_from : IsPrefix (trail_of from) (trail_of new)
  pub trail : IsPrefix (trail_of old) (trail_of new)

-- somebody's pass has met another, and nothing else has changed
pub record WasTold {W T O : Type 0} (t : Turnstile T O) (from : Pass T) (old new : Manned W T) : Type 0 where
  pub worker : new.worker ≡ old.worker
  pub met : HasMet t from old.pass new.pass

-- the pass has seen what another had seen
pub record Knows {T : Type 0} (pass other : Pass T) : Type 0 where
  pub seen : IsPrefix (seen_of other) (seen_of pass)
  pub mark : mark_of other ≤ mark_of pass
  pub trail : IsPrefix (trail_of other) (trail_of pass)

-- the pass has its number, and has added and may still add as often
pub record IsAsBefore {T : Type 0} (old new : Pass T) : Type 0 where
  pub number : number_of new ≡ number_of old
  pub added : added_of new ≡ added_of old
  pub left : left_of new ≡ left_of old
