-- The seams of the distributions of a run: what its owner has, and what each post has between two attempts.
use Rattle.std.specs.Prelude.{◌≡◌, ℕ, ◌+◌, ◌-◌, ◌*◌, ◌<◌, ◌≤◌, List, length, All, Option, Some, None}
use mathlib.Core.List.{IsPrefix}
use Rattle.esa_params.specs.Sizes.{Sizes}
use Rattle.esa_spec.specs.Draws.{Draw}
use Rattle.esa_spec.specs.Histories.{begun}
use Rattle.esa_floor.specs.Marks.{mark_of, roots_of}
use Rattle.esa_floor.specs.Parts.{Parts}
use Rattle.esa_floor.specs.Trails.{trail_of}
use Rattle.esa_floor.specs.Working.{Working}
use Rattle.esa_floor.specs.declared.floor.Roots.{Roots}
use Rattle.esa_floor.specs.declared.turn.Stop.{Stop}
use Rattle.esa_turnstile.specs.Entries.{times}
use Rattle.esa_turnstile.specs.Passes.{IsInside, IsPassOf, found_mark_of, found_of, found_trail_of, left_of, number_of, opened_of, seen_of}
use Rattle.esa_turnstile.specs.declared.pass.Pass.{Pass}
use Rattle.esa_turnstile.specs.declared.turnstile.Turnstile.{Turnstile}
use Rattle.esa_workers.specs.Posts.{IsManned, IsPlaced}
use Rattle.esa_workers.specs.Works.{FoundNone, most_turns}
use Rattle.esa_workers.specs.declared.posts.Manned.{Manned}

-- the owner of a turnstile is inside and has its floor, to whose history nothing was added since it came in
pub record HasFloor {V : Type 0} (p : Sizes) (t : Turnstile (Parts V) Roots) (owner : Pass (Parts V)) (f : Parts V) : Type 0 where
  pub pass : IsPassOf t owner
  pub inside : IsInside owner
  pub number : number_of owner ≡ p.workers
  pub found : found_of owner ≡ f.history
  pub mark : found_mark_of owner ≤ mark_of f
  pub trail : IsPrefix (found_trail_of owner) (trail_of f)
  pub origin : roots_of f ≡ roots_of (opened_of t)
  pub named : All (λ entry. entry < p.workers + 1) f.history
  pub room : length f.history < f.room

-- a post between two attempts: it has its place, and tickets for the attempts to come, and its pass has seen no more than the
-- floor's history
pub record Rests {V C O : Type 0} (faults : V → ℕ) (ds : ℕ → Draw) (target_lists : C → ℕ → ℕ → List ℕ) (p : Sizes) (t : Turnstile (Parts V) O) (f : Parts V) (number : ℕ) (m : Manned (Working C) (Parts V)) : Type 0 where
  pub manned : IsManned ds target_lists t m
  pub number_is : m.worker.number ≡ number
  pub placed : IsPlaced faults ds p m.pass m.worker m.worker.attempt
  pub tickets : (p.attempts - begun p.workers (seen_of m.pass)) * most_turns p ≤ left_of m.pass
  pub seen : IsPrefix (seen_of m.pass) f.history

-- each worker has found that no bucket is left, unless the turns have stopped
abbrev pub AreDone : Sizes → Option Stop → List ℕ → Type 0
AreDone p None h = (v : ℕ) → v < p.workers → FoundNone p.b h v
AreDone p (Some s) h = Unit {0}

-- the turns are those of the workers: each has had one, and its last one found that no bucket is left, unless they have stopped
pub record AreTurnsOfAll (p : Sizes) (stop : Option Stop) (h : List ℕ) : Type 0 where
  pub workers : All (λ v. v < p.workers) h
  pub each : (v : ℕ) → v < p.workers → 1 ≤ times v h
  pub done : AreDone p stop h
