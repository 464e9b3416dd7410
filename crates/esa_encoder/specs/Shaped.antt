-- What a shaper answers.
use Rattle.std.specs.Prelude.{◌≡◌, ℕ, ◌<◌, ◌≤◌, List, length, take, Option, Some, None}

-- there is nothing to be sent, or more than 190 bytes
abbrev pub IsUnshaped : Option (List ℕ) → Type 0
IsUnshaped None = Unit {0}
IsUnshaped (Some sent) = 190 < length sent

-- what is sent is the front of these bytes
pub record IsShaped (sent : Option (List ℕ)) (n : ℕ) (bytes : List ℕ) : Type 0 where
  pub inside : n ≤ 190
  pub front : sent ≡ Some (take n bytes)
