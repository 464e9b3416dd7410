-- A batch whose records are known by their numbers: what contracts see of it.
use Rattle.std.specs.Prelude.{ℕ}

-- how many records there are, the length of each, and how many reads failed
pub record Many : Type 0 where
  pub count : ℕ
  pub size : ℕ
  pub faults : ℕ
