-- What the owner of a turnstile knows of a worker whose pass it has met.
use Rattle.std.specs.Prelude.{◌≡◌, ℕ, ◌+◌, ◌*◌, ◌≤◌, List}
use mathlib.Core.List.{IsPrefix}
use Rattle.esa_params.specs.Sizes.{Sizes}
use Rattle.esa_spec.specs.Draws.{Draw}
use Rattle.esa_spec.specs.Histories.{begun}
use Rattle.esa_floor.specs.Marks.{mark_of}
use Rattle.esa_floor.specs.Parts.{Parts}
use Rattle.esa_floor.specs.declared.turn.Turn.{Turn}
use Rattle.esa_floor.specs.Working.{Working}
use Rattle.esa_turnstile.specs.Passes.{mark_of as mark_seen, number_of, seen_of}
use Rattle.esa_turnstile.specs.declared.turnstile.Turnstile.{Turnstile}
use Rattle.esa_workers.specs.Posts.{HasWorked}
use Rattle.esa_workers.specs.Works.{Leaves}
use Rattle.esa_workers.specs.declared.posts.Manned.{Manned}

-- the worker of this number has worked in the attempt that the floor is in: what its pass has seen begins the history, with
-- the last owner's entry, and is of a floor at work. No mark has fallen since
pub record HasDone {V : Type 0} (p : Sizes) (f : Parts V) (number : ℕ) : Type 0 where
  pub seen : List ℕ
  pub mark : ℕ
  pub begins : IsPrefix seen f.history
  pub attempt : begun p.workers seen ≡ begun p.workers f.history
  pub at_work : 8 * begun p.workers seen + 5 ≤ mark
  pub below : mark ≤ mark_of f
  pub answer : Turn
  pub leaves : Leaves p seen mark number answer

-- the worker of this number has worked since the owner's pass had seen these entries and this mark: its pass had met the
-- owner's before it worked, and the floor that the owner finds begins with what it saw
pub record IsBack {V C O : Type 0} (faults : V → ℕ) (ds : ℕ → Draw) (target_lists : C → ℕ → ℕ → List ℕ) (p : Sizes) (t : Turnstile (Parts V) O) (entries : List ℕ) (mark : ℕ) (f : Parts V) (number : ℕ) : Type 0 where
  pub old : Manned (Working C) (Parts V)
  pub new : Manned (Working C) (Parts V)
  pub own : number_of new.pass ≡ number
  pub told : IsPrefix entries (seen_of old.pass)
  pub mark_told : mark ≤ mark_seen old.pass
  pub worked : HasWorked faults ds target_lists p t old new
  pub found : IsPrefix (seen_of new.pass) f.history
  pub mark_found : mark_seen new.pass ≤ mark_of f
