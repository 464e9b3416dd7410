-- What is left to flip.
use Rattle.std.proofs.Common.{◌≡◌, drop}
use Rattle.esa_device.specs.Memory.{flipped}
use Rattle.esa_device.proofs.memory.flip_all.Given as goal

abbrev pub invariant-loop-flip : goal.invariant-loop-flip
invariant-loop-flip l = flipped (drop l.flip-index l.flips) l.access l.out ≡ flipped l.fn.flips l.access l.fn.out
