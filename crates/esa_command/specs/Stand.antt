-- How a cabinet or a printer stands: what it tells, how many of its calls failed, and what the others gave or took.
use Rattle.std.specs.Prelude.{ℕ, List, Option}
use Rattle.esa_outside.specs.Heard.{Event}

pub record Stand (T : Type 0) : Type 0 where
  pub told : Option T
  pub faults : ℕ
  pub heard : List Event

-- by the words of its trait
abbrev pub stand : {X T : Type 0} → (X → Option T) → (X → ℕ) → (X → List Event) → X → Stand T
stand tells count hears x = record { told = tells x; faults = count x; heard = hears x }
