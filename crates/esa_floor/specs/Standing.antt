-- What a floor stands for: the history of its turns decides everything else that it holds.
use Rattle.std.specs.Prelude.{◌≡◌, ℕ, ◌+◌, ◌-◌, ◌<◌, ◌≤◌, ◌==◌, min, true, false, List, [], ◌∷◌, ◌++◌, length, take, count_by, slice_index_or, All, Option, Some, None}
use Rattle.esa_outside.specs.Cause.{Rose}
use Rattle.esa_params.specs.Sizes.{Sizes}
use Rattle.esa_params.specs.Slots.{at, greatest_trace, item_length, slot_number}
use Rattle.esa_params.specs.declared.slot.Access.{Access}
use Rattle.esa_params.specs.declared.slot.Op.TheVariants.{Read as Reads}
use Rattle.esa_params.specs.declared.slot.Region.TheVariants.{Input}
use Rattle.esa_spec.specs.Draws.{Draw, IsDrawn}
use Rattle.esa_spec.specs.Fronts.{Begins, EndsWith, items_in}
use Rattle.esa_spec.specs.Histories.{begun, latest, lists}
use Rattle.esa_spec.specs.Lines.{backlog, chunk, overflows}
use Rattle.esa_spec.specs.Places.{exchange_of}
use Rattle.esa_spec.specs.Traces.{all_failed, asked, attempts, good_attempt, load, shuffle_trace, spread}
use Rattle.esa_spec.specs.Turns.{event_at, order}
use Rattle.esa_spec.specs.Turns as turns
use Rattle.esa_spec.specs.Verdicts.{failing}
use Rattle.esa_spec.specs.declared.event.Event.TheVariants.{Exchange, Read}
use Rattle.esa_stash.specs.Stash.{Held, empty_stash, queue_at}
use Rattle.esa_vault.specs.Placed.{IsHeld, IsSpelled}
use Rattle.esa_vault.specs.Seals.{opens}
use Rattle.esa_floor.specs.Parts.{Counted, Parts, count_at, no_counts}
use Rattle.esa_floor.specs.declared.turn.Outcome.{Outcome}
use Rattle.esa_floor.specs.declared.turn.Outcome.TheVariants as outcome
use Rattle.esa_floor.specs.declared.turn.Stop.{Stop}
use Rattle.esa_floor.specs.declared.turn.Stop.TheVariants as stop

-- the attempt that was begun last, and its turns
abbrev pub attempt_begun : {V : Type 0} → Parts V → ℕ
attempt_begun f = begun f.plan.workers f.history - 1

abbrev pub turns_made : {V : Type 0} → Parts V → List ℕ
turns_made f = latest f.plan.workers f.history

-- the turns of the attempts before it
abbrev pub lists_before : {V : Type 0} → Parts V → List (List ℕ)
lists_before f = lists f.plan.workers f.history

-- the floor is of the plan. Its recorder is ready and has room for what its accesses leave of the most that a shuffle makes
pub record IsOf {V : Type 0} (p : Sizes) (f : Parts V) : Type 0 where
  pub plan : f.plan ≡ p
  pub ready : f.recorder.plan ≡ Some p
  pub room : greatest_trace p ≤ length f.recorder.trace + f.recorder.room
  pub entries : length f.history ≤ f.room

-- nothing was begun and nothing was done
pub record IsNew {V : Type 0} (faults : V → ℕ) (f : Parts V) : Type 0 where
  pub none_begun : begun f.plan.workers f.history ≡ 0
  pub trace : f.recorder.trace ≡ []
  pub queues : f.stash ≡ empty_stash f.plan.b f.plan.c f.plan.s
  pub counts : f.counts ≡ no_counts f.plan.b
  pub runs : f.stop ≡ None
  pub calm : faults f.recorder.device ≡ f.faults

-- why the turns of an attempt stopped, where the first `done` of them did not fail: none of them did; or the next one,
-- which then was an exchange that overflows, or made an access that failed or gave a block that doesn't open
abbrev pub StopsAt : {V : Type 0} → (V → ℕ) → Draw → ℕ → Parts V → ℕ → Option Stop → Type 0
StopsAt faults d a f done None = (done ≡ length (turns_made f)) × (faults f.recorder.device ≡ f.faults)
StopsAt faults d a f done (Some (stop.StashOverflow j)) =
    (done < length (turns_made f))
    × (event_at f.plan.b (turns_made f) done ≡ Exchange j)
    × (overflows f.plan d (order f.plan.b (take done (turns_made f)) ++ j ∷ []) (length (order f.plan.b (take done (turns_made f)))) ≡ true)
    × (faults f.recorder.device ≡ f.faults)
StopsAt faults d a f done (Some (stop.DeviceFault number)) =
    (done < length (turns_made f))
    × ((access : Access) × (asked f.plan a (event_at f.plan.b (turns_made f) done) ≡ Some access) × (slot_number f.plan access ≡ number))
    × Rose f.faults (faults f.recorder.device)
StopsAt faults d a f done (Some (stop.Tampered number)) =
    (done < length (turns_made f))
    × (event_at f.plan.b (turns_made f) done ≡ Read number)
    × (opens f.plan f.run (at Input number) a 0 f.recorder.last ≡ false)
    × (faults f.recorder.device ≡ f.faults)

-- what the turns of an attempt have made of the stash, the counts of the chunks and what is counted
pub record IsSpread (p : Sizes) (d : Draw) (h : List ℕ) (stash : Held) (counts : List ℕ) (counted : Counted) : Type 0 where
  pub runs : failing p d (order p.b h) ≡ None
  -- each queue is as long as the backlog of its target
  pub waits : (i : ℕ) → i < p.b → length (queue_at stash i) ≡ backlog p d (order p.b h) (length (order p.b h)) i
  -- what waits is no dummy, and bytes can spell it
  pub held : All (All IsHeld) stash.queues
  pub spelled : All (All (IsSpelled (item_length p.form))) stash.queues
  -- the chunks of each bucket that was exchanged are counted
  pub chunks : (j i : ℕ) → i < p.b → 1 ≤ count_by (λ k. k == j) (order p.b h)
      → count_at p.b counts j i ≡ length (chunk p d (order p.b h) (exchange_of (order p.b h) j) i)
  pub claims : counted.claims ≡ min (turns.claims p.b h) p.b
  pub writes : counted.writes ≡ turns.writes p.b h

-- an attempt is at work. The first `done` of its turns did not fail
pub record IsAtWork {V : Type 0} (faults : V → ℕ) (ds : ℕ → Draw) (f : Parts V) (a : ℕ) : Type 0 where
  pub done : ℕ
  pub attempt : a ≡ attempt_begun f
  pub some_begun : 1 ≤ begun f.plan.workers f.history
  pub planned : a < f.plan.attempts
  -- the attempts before failed
  pub earlier : all_failed f.plan ds 0 (lists_before f) ≡ true
  -- the accesses are those of the load, of the attempts before, and of the turns up to the first that failed
  pub traced : f.recorder.trace
      ≡ (load f.plan ++ attempts f.plan ds 0 (lists_before f)) ++ spread f.plan (ds a) a (take (done + 1) (turns_made f))
  pub spread : IsSpread f.plan (ds a) (take done (turns_made f)) f.stash f.counts f.counted
  pub stops : StopsAt faults (ds a) a f done f.stop

-- how a run has ended
abbrev pub EndsAs : {V : Type 0} → (V → ℕ) → (ℕ → Draw) → Parts V → Outcome → Type 0
EndsAs faults ds f (outcome.Shuffled a) =
    (f.recorder.trace ≡ shuffle_trace f.plan ds (lists_before f))
    × (a < f.plan.attempts) × (good_attempt f.plan ds 0 (lists_before f) ≡ Some a) × (length (lists_before f) ≡ a + 1)
    × (faults f.recorder.device ≡ f.faults)
EndsAs faults ds f outcome.Overflow =
    (f.recorder.trace ≡ shuffle_trace f.plan ds (lists_before f))
    × (length (lists_before f) ≡ f.plan.attempts) × (all_failed f.plan ds 0 (lists_before f) ≡ true)
    × (faults f.recorder.device ≡ f.faults)
EndsAs faults ds f (outcome.DeviceFault number) =
    (Begins f.recorder.trace (shuffle_trace f.plan ds (lists_before f)))
    × ((access : Access) × EndsWith f.recorder.trace access × (slot_number f.plan access ≡ number))
    × Rose f.faults (faults f.recorder.device)
EndsAs faults ds f (outcome.Tampered number) =
    (Begins f.recorder.trace (shuffle_trace f.plan ds (lists_before f)))
    × ((access : Access) × EndsWith f.recorder.trace access × (access.op ≡ Reads) × (slot_number f.plan access ≡ number)
    × (opens f.plan f.run (at access.region access.index) access.attempt (items_in f.plan (ds access.attempt) (order f.plan.b (slice_index_or (lists_before f) access.attempt [])) access) f.recorder.last ≡ false))
    × (faults f.recorder.device ≡ f.faults)
EndsAs faults ds f outcome.BatchFailed =
    (lists_before f ≡ []) × Begins f.recorder.trace (load f.plan) × (faults f.recorder.device ≡ f.faults)

-- where a floor is: it has ended, an attempt is at work, or nothing was begun
abbrev pub IsAt : {V : Type 0} → (V → ℕ) → (ℕ → Draw) → Parts V → Option Outcome → Option ℕ → Type 0
IsAt faults ds f (Some outcome) attempt = (attempt ≡ None) × (1 ≤ begun f.plan.workers f.history) × EndsAs faults ds f outcome
IsAt faults ds f None (Some a) = IsAtWork faults ds f a
IsAt faults ds f None None = IsNew faults f

-- the floor stands for its history, where each attempt draws as is said
pub record Stands {V : Type 0} (faults : V → ℕ) (p : Sizes) (ds : ℕ → Draw) (f : Parts V) : Type 0 where
  pub of : IsOf p f
  pub drawn : (a : ℕ) → a < p.attempts → IsDrawn p (ds a)
  pub state : IsAt faults ds f f.outcome f.attempt
