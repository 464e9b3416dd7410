-- Pieces put one after another.
use Rattle.std.specs.Prelude.{ℕ, List}

-- all that was put, and how many bytes there is room for
pub record Joined : Type 0 where
  pub bytes : List ℕ
  pub room : ℕ
