-- The blocks so far.
use Rattle.std.proofs.Common.{◌≡◌, map}
use Rattle.esa_params.specs.Sizes.{below}
use Rattle.esa_params.specs.Slots.{length_at}
use Rattle.esa_device.specs.Blocks.{zero_block}
use Rattle.esa_device.specs.Memory.{contents}
use Rattle.esa_device.proofs.memory.zeroed.Given as goal

abbrev pub invariant-loop-number : goal.invariant-loop-number
invariant-loop-number l = contents l.blocks.items ≡ map (λ slot. zero_block (length_at l.plan slot)) (below l.number)
