-- The turns of a run by a crew.
use Rattle.std.specs.Prelude.{◌≡◌, ℕ, ◌-◌, ◌<◌, ◌≤◌, List, length, All, None}
use Rattle.esa_params.specs.Sizes.{Sizes}
use Rattle.esa_spec.specs.Draws.{Draw}
use Rattle.esa_spec.specs.Turns.{order}
use Rattle.esa_spec.specs.Verdicts.{failing}
use Rattle.esa_ending.specs.Seen.{turns_in}
use Rattle.esa_floor.specs.declared.turn.Outcome.{Outcome}
use Rattle.esa_floor.specs.declared.turn.Outcome.TheVariants as outcome
use Rattle.esa_turnstile.specs.Entries.{times}
use Rattle.esa_workers.specs.Works.{FoundNone}

-- the turns are those of the workers, and each of them has had one
pub record TookPart (p : Sizes) (h : List ℕ) : Type 0 where
  pub workers : All (λ v. v < p.workers) h
  pub each : (v : ℕ) → v < p.workers → 1 ≤ times v h

-- so it is in each attempt
abbrev pub AllTookPart : Sizes → List (List ℕ) → Type 0
AllTookPart p hs = (a : ℕ) → a < length hs → TookPart p (turns_in hs a)

-- where no exchange failed in an attempt with these turns, each worker has had one that found no bucket left
abbrev pub IsDoneByAll : Sizes → Draw → List ℕ → Type 0
IsDoneByAll p d h = failing p d (order p.b h) ≡ None → (v : ℕ) → v < p.workers → FoundNone p.b h v

-- how many of the attempts that were begun no failed access has cut: all, or all but the last, where one ended the run
abbrev pub uncut_of : Outcome → ℕ → ℕ
uncut_of (outcome.Shuffled a) begun = begun
uncut_of outcome.Overflow begun = begun
uncut_of (outcome.DeviceFault number) begun = begun - 1
uncut_of (outcome.Tampered number) begun = begun - 1
uncut_of outcome.BatchFailed begun = begun

-- so it is in each of these, where a run ended so
abbrev pub AllAreDone : Sizes → (ℕ → Draw) → List (List ℕ) → Outcome → Type 0
AllAreDone p ds hs o = (a : ℕ) → a < uncut_of o (length hs) → IsDoneByAll p (ds a) (turns_in hs a)
