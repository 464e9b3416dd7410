-- The flips so far are those of the front.
use Rattle.std.proofs.Common.{◌≡◌, map, take}
use Rattle.esa_case_parts.specs.Flips.{flip_of}
use Rattle.esa_case_parts.proofs.devices.flips_of.Given as goal

abbrev pub invariant-loop-flip : goal.invariant-loop-flip
invariant-loop-flip l = l.made.items ≡ map flip_of (take l.flip-index l.flips)
