-- What a worker stands for: its place in the turns of the attempt at work, and what it holds there.
use Rattle.std.specs.Prelude.{◌≡◌, ◌≢◌, ℕ, ◌<◌, ◌≤◌, min, List, None}
use Rattle.esa_spec.specs.Draws.{Draw}
use Rattle.esa_spec.specs.Turns.{held, next_phase}
use Rattle.esa_floor.specs.Parts.{Parts}
use Rattle.esa_floor.specs.Standing.{turns_made}
use Rattle.esa_floor.specs.Working.{Working}
use Rattle.esa_floor.specs.declared.worker.Stage.{Stage}
use Rattle.esa_floor.specs.declared.worker.Stage.TheVariants.{Empty, Envelopes, Items, Chunks, Blocks}

-- it holds what it read
abbrev pub HasRead : Stage → Type 0
HasRead Empty = ⊥
HasRead Envelopes = Unit {0}
HasRead Items = Unit {0}
HasRead Chunks = ⊥
HasRead Blocks = ⊥

-- it holds what it exchanged
abbrev pub HasExchanged : Stage → Type 0
HasExchanged Empty = ⊥
HasExchanged Envelopes = ⊥
HasExchanged Items = ⊥
HasExchanged Chunks = Unit {0}
HasExchanged Blocks = Unit {0}

-- the worker is of the floor's plan and keys, and its coins draw these targets
pub record IsOfFloor {V C : Type 0} (ds : ℕ → Draw) (target_list : ℕ → ℕ → List ℕ) (f : Parts V) (w : Working C) : Type 0 where
  pub number : w.number < f.plan.workers
  pub plan : w.buffers.plan ≡ f.plan
  pub outer : w.outer ≡ f.outer
  pub run : w.run ≡ f.run
  pub draws : (a j : ℕ) → a < f.plan.attempts → j < f.plan.b → target_list a j ≡ (ds a).targets j

-- a turn changes no more of a worker than its place in the turns, what it read and what it exchanged
abbrev pub moved : {C : Type 0} → Working C → Working C → Working C
moved old new = record old {
  phase = new.phase;
  bucket = new.bucket;
  stage = new.stage;
  buffers = record old.buffers { text = new.buffers.text; sealed = new.buffers.sealed; chunks = new.buffers.chunks };
}

-- its phase and its bucket are those of its next turn. In a round that has a bucket it holds what it read from its read
-- to its exchange, and what it exchanged after that
pub record IsInRound {C : Type 0} (b : ℕ) (h : List ℕ) (w : Working C) : Type 0 where
  pub phase : w.phase ≡ next_phase b h w.number
  pub bucket : w.phase ≢ 0 → w.bucket ≡ min (held b h w.number) b
  pub read : w.phase ≡ 2 → w.bucket < b → HasRead w.stage
  pub exchanged : 3 ≤ w.phase → w.bucket < b → HasExchanged w.stage

-- the worker is in the floor's attempt, and while no turn has failed it is in its round. After that it need hold nothing
pub record WorkerStands {V C : Type 0} (f : Parts V) (w : Working C) : Type 0 where
  pub attempt : w.attempt ≡ f.attempt
  pub round : f.stop ≡ None → IsInRound f.plan.b (turns_made f) w
