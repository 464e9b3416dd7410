-- The workers of a floor, each at its post.
use Rattle.std.specs.Prelude.{◌≡◌, ◌≢◌, ℕ, ◌<◌, List, length, slice_index_or, None}
use Rattle.esa_envelope.specs.declared.keys.Keys.{Keys}
use Rattle.esa_params.specs.Sizes.{Sizes}
use Rattle.esa_spec.specs.Draws.{Draw}
use Rattle.esa_floor.specs.Keeping.{HoldsAfter, HoldsChunks, HoldsRecords}
use Rattle.esa_floor.specs.Parts.{Parts}
use Rattle.esa_floor.specs.Workers.{IsOfFloor, WorkerStands}
use Rattle.esa_floor.specs.Working.{IsReady, Working}

-- the worker has this number and is of the floor
pub record IsMember {V C : Type 0} (ds : ℕ → Draw) (target_lists : C → ℕ → ℕ → List ℕ) (f : Parts V) (place : ℕ) (w : Working C) : Type 0 where
  pub number : w.number ≡ place
  pub of : IsOfFloor ds (target_lists w.coins) f w

-- it also stands for the floor's history, and has nothing left to prepare
pub record IsPost {V C : Type 0} (ds : ℕ → Draw) (target_lists : C → ℕ → ℕ → List ℕ) (f : Parts V) (place : ℕ) (w : Working C) : Type 0 where
  pub number : w.number ≡ place
  pub of : IsOfFloor ds (target_lists w.coins) f w
  pub ready : IsReady w.stage
  pub stands : WorkerStands f w

-- each worker stands at the index of its number
abbrev pub AreMembers : {V C : Type 0} → (ℕ → Draw) → (C → ℕ → ℕ → List ℕ) → Parts V → List (Working C) → Type 0
AreMembers ds target_lists f workers = (k : ℕ) (w : Working _) → k < length workers → IsMember ds target_lists f k (slice_index_or workers k w)

abbrev pub ArePosts : {V C : Type 0} → (ℕ → Draw) → (C → ℕ → ℕ → List ℕ) → Parts V → List (Working C) → Type 0
ArePosts ds target_lists f workers = (k : ℕ) (w : Working _) → k < length workers → IsPost ds target_lists f k (slice_index_or workers k w)

-- each worker holds the records of what it read, and the chunks of what it exchanged
pub record KeepsRecords {V C : Type 0} (ds : ℕ → Draw) (f : Parts V) (w : Working C) : Type 0 where
  pub records : HoldsRecords f w
  pub chunks : HoldsChunks ds f w

abbrev pub AllHold : {V C : Type 0} → (ℕ → Draw) → Parts V → List (Working C) → Type 0
AllHold ds f workers = (k : ℕ) (w : Working _) → k < length workers → KeepsRecords ds f (slice_index_or workers k w)

-- each worker but that of one number holds what it held after the turns h of the attempt
abbrev pub OthersHoldAfter : {V C : Type 0} → (ℕ → Draw) → List ℕ → ℕ → Parts V → List (Working C) → Type 0
OthersHoldAfter ds h number f workers =
    (k : ℕ) (w : Working _) → k < length workers → k ≢ number → HoldsAfter ds h f (slice_index_or workers k w)

-- the worker was made for a plan, with this number, keys and coins. It has begun no attempt, and has nothing to prepare
pub record IsNewWorker {C : Type 0} (coins : C) (p : Sizes) (outer run : Keys) (place : ℕ) (w : Working C) : Type 0 where
  pub number : w.number ≡ place
  pub coins_are : w.coins ≡ coins
  pub plan : w.buffers.plan ≡ p
  pub outer_are : w.outer ≡ outer
  pub run_are : w.run ≡ run
  pub attempt : w.attempt ≡ None
  pub ready : IsReady w.stage
