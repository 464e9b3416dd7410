-- A device in a file.
use Rattle.std.specs.Prelude.{Option}
use Rattle.esa_params.specs.Sizes.{Sizes}
use Rattle.esa_device.specs.declared.counts.Counts.{Counts}

-- the plan that it is laid for, and what was counted
pub record OnFile : Type 0 where
  pub plan : Option Sizes
  pub counts : Counts
