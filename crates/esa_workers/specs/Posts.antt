-- A worker with its pass: what it may rely on when it comes in, and what it leaves.
use Rattle.std.specs.Prelude.{◌≡◌, ◌≢◌, ℕ, ◌+◌, ◌-◌, ◌*◌, ◌≤◌, ◌⊎◌, List, [], ◌∷◌, ◌++◌, Option, Some, None}
use mathlib.Core.List.{IsPrefix}
use Rattle.esa_params.specs.Sizes.{Sizes}
use Rattle.esa_spec.specs.Draws.{Draw}
use Rattle.esa_spec.specs.Histories.{begun, latest}
use Rattle.esa_floor.specs.Parts.{Parts}
use Rattle.esa_spec.specs.Turns.{turns_of}
use Rattle.esa_floor.specs.Standing.{turns_made}
use Rattle.esa_floor.specs.Trails.{IsKept, trail_of}
use Rattle.esa_floor.specs.Workers.{IsInRound, IsOfFloor, WorkerStands}
use Rattle.esa_floor.specs.Working.{IsReady, Working}
use Rattle.esa_crew.specs.Posts.{KeepsRecords}
use Rattle.esa_turnstile.specs.Entries.{times}
use Rattle.esa_turnstile.specs.Passes.{IsOutside, IsPassOf, added_of, left_of, mark_of, number_of, opened_of, seen_of, trail_of as trail_seen}
use Rattle.esa_turnstile.specs.declared.pass.Pass.{Pass}
use Rattle.esa_turnstile.specs.declared.turnstile.Turnstile.{Turnstile}
use Rattle.esa_floor.specs.declared.turn.Turn.{Turn}
use Rattle.esa_workers.specs.Works.{IsIdle, Leaves, attempts_left, most_turns}
use Rattle.esa_workers.specs.declared.posts.Manned.{Manned}

-- the worker is of the turnstile's floor and ready, and its pass is of the turnstile, has its number, and is outside
pub record IsManned {V C O : Type 0} (ds : ℕ → Draw) (target_lists : C → ℕ → ℕ → List ℕ) (t : Turnstile (Parts V) O) (m : Manned (Working C) (Parts V)) : Type 0 where
  pub pass : IsPassOf t m.pass
  pub outside : IsOutside m.pass
  pub number : number_of m.pass ≡ m.worker.number
  pub of : IsOfFloor ds (target_lists m.worker.coins) (opened_of t) m.worker
  pub ready : IsReady m.worker.stage

-- what a worker has of the floor that it left behind these entries, of which a pass has seen the trail
pub record TookAlong {V C : Type 0} (faults : V → ℕ) (ds : ℕ → Draw) (p : Sizes) (before : List ℕ) (trail : List (List ℕ)) (w : Working C) (a : ℕ) : Type 0 where
  pub floor : Parts V
  pub kept : IsKept faults p ds floor
  pub attempt : floor.attempt ≡ Some a
  pub runs : floor.stop ≡ None
  pub history : floor.history ≡ before
  pub told : IsPrefix (trail_of floor) trail
  pub outer : w.outer ≡ floor.outer
  pub run : w.run ≡ floor.run
  pub keeps : KeepsRecords ds floor w

-- the worker stands for the entries that were seen up to its own last one, in attempt a, and holds what it took along. Or a
-- stop of that attempt was seen
pub record StandsIn {V C : Type 0} (faults : V → ℕ) (ds : ℕ → Draw) (p : Sizes) (pass : Pass (Parts V)) (w : Working C) (a : ℕ) : Type 0 where
  pub before : List ℕ
  pub after : List ℕ
  pub parts : seen_of pass ≡ before ++ after
  pub others : times w.number after ≡ 0
  pub attempt : begun p.workers before ≡ a + 1
  pub round : (IsInRound p.b (latest p.workers before) w × TookAlong faults ds p before (trail_seen pass) w a) ⊎ (8 * (a + 1) + 6 ≤ mark_of pass)

-- the same by the attempt that it began last. If it began none, its pass has added nothing
abbrev pub IsPlaced : {V C : Type 0} → (V → ℕ) → (ℕ → Draw) → Sizes → Pass (Parts V) → Working C → Option ℕ → Type 0
IsPlaced faults ds p pass w None = added_of pass ≡ 0
IsPlaced faults ds p pass w (Some a) = StandsIn faults ds p pass w a

-- the pass has a ticket left, and enough for all attempts that there may still be
pub record HasTickets {V : Type 0} (p : Sizes) (pass : Pass (Parts V)) : Type 0 where
  pub one : 1 ≤ left_of pass
  pub all : attempts_left p (seen_of pass) * most_turns p ≤ left_of pass

-- the pass was used: it has seen what it had seen, entries of others, and its own number, and a trail that goes on
pub record IsUsed {V : Type 0} (old new : Pass (Parts V)) : Type 0 where
  pub others : List ℕ
  pub none_own : times (number_of new) others ≡ 0
  pub seen : seen_of new ≡ (seen_of old ++ others) ++ number_of new ∷ []
  pub mark : mark_of old ≤ mark_of new
  pub trail : IsPrefix (trail_seen old) (trail_seen new)
  pub left : left_of new + 1 ≡ left_of old
  pub number : number_of new ≡ number_of old

-- a floor in attempt a, to a worker that comes in: if the worker is in it, it stands and holds the records, and otherwise it
-- had no turn there
pub record Finds {V C : Type 0} (ds : ℕ → Draw) (f : Parts V) (w : Working C) (a : ℕ) : Type 0 where
  pub same : w.attempt ≡ Some a → WorkerStands f w × KeepsRecords ds f w
  pub other : w.attempt ≢ Some a → turns_of w.number (turns_made f) ≡ 0

-- the worker has the number, the coins, the plan and the keys that it had
pub record IsSameWorker {C : Type 0} (old new : Working C) : Type 0 where
  pub number : new.number ≡ old.number
  pub coins : new.coins ≡ old.coins
  pub plan : new.buffers.plan ≡ old.buffers.plan
  pub outer : new.outer ≡ old.outer
  pub run : new.run ≡ old.run

-- the worker may work: it has its place, and tickets enough
pub record CanWork {V C O : Type 0} (faults : V → ℕ) (ds : ℕ → Draw) (target_lists : C → ℕ → ℕ → List ℕ) (p : Sizes) (t : Turnstile (Parts V) O) (m : Manned (Working C) (Parts V)) : Type 0 where
  pub manned : IsManned ds target_lists t m
  pub placed : IsPlaced faults ds p m.pass m.worker m.worker.attempt
  pub tickets : HasTickets p m.pass

-- the worker has worked, up to a last turn. It has its place, unless the floor was in no attempt, and tickets enough for the
-- attempts to come
pub record HasWorked {V C O : Type 0} (faults : V → ℕ) (ds : ℕ → Draw) (target_lists : C → ℕ → ℕ → List ℕ) (p : Sizes) (t : Turnstile (Parts V) O) (old new : Manned (Working C) (Parts V)) : Type 0 where
  pub manned : IsManned ds target_lists t new
  pub placed : IsPlaced faults ds p new.pass new.worker new.worker.attempt ⊎ IsIdle p (seen_of new.pass) (mark_of new.pass)
  pub number : number_of new.pass ≡ number_of old.pass
  -- the pass has seen all that it had seen, and its own number behind it
  pub between : List ℕ
  pub seen : seen_of new.pass ≡ (seen_of old.pass ++ between) ++ number_of new.pass ∷ []
  pub mark : mark_of old.pass ≤ mark_of new.pass
  pub trail : IsPrefix (trail_seen old.pass) (trail_seen new.pass)
  pub left : (attempts_left p (seen_of new.pass) - 1) * most_turns p ≤ left_of new.pass
  pub answer : Turn
  pub leaves : Leaves p (seen_of new.pass) (mark_of new.pass) (number_of new.pass) answer
