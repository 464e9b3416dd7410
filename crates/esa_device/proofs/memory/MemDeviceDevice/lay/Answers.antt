-- Blocks of zero bytes have the plan's lengths.
use Rattle.std.proofs.Common.{ℕ, List, Some, sym, subst}
use Rattle.esa_device.specs.Memory.{IsLaidOut}
use Rattle.esa_device.proofs.BlockLaws.{zero-laid_out}
use Rattle.esa_device.proofs.memory.MemDeviceDevice.lay.Goals as goal

pub invariant_of-self-2 : goal.invariant_of-self-2
invariant_of-self-2 c = subst (λ (blocks : List (List ℕ)). IsLaidOut (Some c.args.plan.now) blocks) (sym c.in_ok-self-inside.ensures) (zero-laid_out c.args.plan.now)
