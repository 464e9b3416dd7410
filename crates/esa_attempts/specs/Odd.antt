-- A device that does something odd at some accesses: what contracts see of it.
use Rattle.std.specs.Prelude.{ℕ, Option}
use Rattle.esa_params.specs.Sizes.{Sizes}
use Rattle.esa_params.specs.declared.slot.Op.{Op}

-- the plan that it is laid for, and what was counted
pub record Odd : Type 0 where
  pub plan : Option Sizes
  pub faults : ℕ
  pub calls : ℕ
  pub last_call : Option (Op × ℕ)
