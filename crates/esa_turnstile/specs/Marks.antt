-- How far a value has come: its mark, and its trail.
use Rattle.std.specs.Prelude.{ℕ, ◌≤◌, List}
use mathlib.Core.List.{IsPrefix}
use Rattle.esa_turnstile.specs.declared.view.Mark.{Mark}

-- the second has come at least as far: its number is no lower, and its trail begins with that of the first
pub record IsBelow (m n : Mark) : Type 0 where
  pub number : m.number ≤ n.number
  pub trail : IsPrefix m.trail n.trail

-- what a value tells of itself
abbrev pub marked : {T : Type 0} → (T → ℕ) → (T → List (List ℕ)) → T → Mark
marked mark trail x = record { number = mark x; trail = trail x }
