-- The lines of an attempt, by numbers alone: how many places came in for each target, and how many have left.
use Rattle.std.specs.Prelude.{◌≡◌, ℕ, ◌+◌, ◌-◌, ◌<◌, ◌≤◌, ◌==◌, min, List, length, replicate, slice_index, count_by, sum_by}
use Rattle.esa_params.specs.Sizes.{Sizes, ArePlanned, size, below}
use Rattle.esa_spec.specs.Draws.{Draw}
use Rattle.esa_spec.specs.Lines.{arrivals, gone}

pub record Passed : Type 0 where
  pub p : Sizes
  pub arrived : List ℕ
  pub gone : List ℕ

abbrev pub none_passed : Sizes → Passed
none_passed p = record { p = p; arrived = replicate p.b 0; gone = replicate p.b 0 }

-- how often a target comes
abbrev pub occurrences : ℕ → List ℕ → ℕ
occurrences i targets = count_by (λ target. target == i) targets

-- how many wait for a target
abbrev pub waiting_at : Passed → ℕ → ℕ
waiting_at passed i = slice_index passed.arrived i - slice_index passed.gone i

-- a number for each target
pub record AreLines (passed : Passed) : Type 0 where
  pub arrived_each : length passed.arrived ≡ passed.p.b
  pub gone_each : length passed.gone ≡ passed.p.b

-- the sizes are planned, and there are places for the targets of the largest bucket and room to draw them
pub record CanDraw (passed : Passed) (places room : ℕ) : Type 0 where
  pub planned : ArePlanned passed.p
  pub lines : AreLines passed
  pub place_each : places ≡ size passed.p 0
  pub draws : room ≡ size passed.p 0 + passed.p.b - 1

-- each target that comes is counted
abbrev pub AreCounted : List ℕ → List ℕ → List ℕ → Type 0
AreCounted targets old new = (i : ℕ) → i < length old → slice_index new i ≡ slice_index old i + occurrences i targets

-- of those that have come up to c more leave
abbrev pub HaveLeft : ℕ → List ℕ → List ℕ → List ℕ → Type 0
HaveLeft c arrived old new = (i : ℕ) → i < length old → slice_index new i ≡ min (slice_index old i + c) (slice_index arrived i)

-- how many of those that have come stay for a target, where up to c more leave
abbrev pub staying : ℕ → List ℕ → List ℕ → ℕ → ℕ
staying c arrived gone i = slice_index arrived i - (slice_index gone i + c)

-- and for all targets together
abbrev pub all_staying : ℕ → List ℕ → List ℕ → ℕ
all_staying c arrived gone = sum_by (staying c arrived gone) (below (length gone))

-- an exchange of a bucket with these targets
pub record IsExchanged (targets : List ℕ) (old new : Passed) : Type 0 where
  pub plan : new.p ≡ old.p
  pub counted : AreCounted targets old.arrived new.arrived
  pub left : HaveLeft old.p.c new.arrived old.gone new.gone

-- no more have left than have come, and few have come
pub record AreFew (passed : Passed) : Type 0 where
  pub come : (i : ℕ) → i < passed.p.b → slice_index passed.arrived i ≤ 67108864
  pub left : (i : ℕ) → i < passed.p.b → slice_index passed.gone i ≤ slice_index passed.arrived i

-- the lines are those of an order of exchanges
pub record AreLinesOf (p : Sizes) (d : Draw) (o : List ℕ) (passed : Passed) : Type 0 where
  pub plan : passed.p ≡ p
  pub arrived : (i : ℕ) → i < p.b → slice_index passed.arrived i ≡ arrivals p d o (length o) i
  pub gone : (i : ℕ) → i < p.b → slice_index passed.gone i ≡ gone p d o (length o) i
